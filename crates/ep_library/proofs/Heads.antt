-- Heads of frames of version 3.
use Rattle.std.proofs.Common.{◌≡◌, ◌+◌, ℕ, Bool, true, false, ◌&&◌, eqb, List, refl, ap}
use Rattle.std.proofs.lemmas.Bool.{both_ways, eqb-true}
use Rattle.ep_frame.specs.Fields.{body_len_from, generation_from, header_at, header_len, number_at, second_len_from}
use Rattle.ep_library.specs.Framing.{head_at, head_of, is_third}
use Rattle.ep_library.specs.declared.frame_head.FrameHead.{FrameHead}

-- what the header says, by the version's number
abbrev by_version : ℕ → List ℕ → FrameHead
by_version v bytes = record {
  entry = number_at 8 4 bytes;
  generation = generation_from v (number_at 40 4 bytes);
  body_at = header_len v + number_at 35 1 bytes + second_len_from v (number_at 34 1 bytes) (number_at 36 2 bytes);
  body_len = body_len_from v (number_at 34 1 bytes) (number_at 36 2 bytes) (number_at 44 4 bytes);
  number = number_at 21 2 bytes;
  ballot = number_at 23 2 bytes;
  dependencies = number_at 38 2 bytes;
  replica = number_at 20 1 bytes;
  from = number_at 4 1 bytes;
  to = number_at 5 1 bytes;
  kind = number_at 3 1 bytes;
  op = number_at 34 1 bytes;
}

second_of : (one other : Bool) → (one && other) ≡ true → other ≡ true
second_of true other e = e
second_of false other e = absurd (both_ways false refl e)

pub is_header_s : (bytes : List ℕ) → is_third bytes ≡ true → head_of (header_at bytes) ≡ head_at bytes
is_header_s bytes third =
    ap (λ v. by_version v bytes)
    (eqb-true (number_at 2 1 bytes) 3
    (second_of (eqb (number_at 0 2 bytes) 0x4550) (eqb (number_at 2 1 bytes) 3) third))
