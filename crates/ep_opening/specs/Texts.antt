-- What fields are called.
use Rattle.std.specs.Prelude.{ℕ, List, codes}
use Rattle.ep_opening.specs.declared.opening_field.OpeningField.{OpeningField}
use Rattle.ep_opening.specs.declared.opening_field.OpeningField.TheVariants.{Magic, Version, Replicas, Generation, Since, SealMark, SealLength, Seal, Map, Count, Instance, Log, Rest}

abbrev pub field_text : OpeningField → List ℕ
field_text Magic = codes "the word in front"
field_text Version = codes "the version"
field_text Replicas = codes "the number of replicas"
field_text Generation = codes "the generation"
field_text Since = codes "the stamp"
field_text SealMark = codes "the byte that says whether a seal began the generation"
field_text SealLength = codes "the length of the seal's value"
field_text Seal = codes "the seal's value"
field_text Map = codes "the map"
field_text Count = codes "the number of executed instances"
field_text Instance = codes "an executed instance"
field_text Log = codes "the log's length"
field_text Rest = codes "what stands behind the last field"
