-- What replicas start as, their version and what they open with.
use Rattle.std.specs.Prelude.{◌≡◌}
use base.Stored.{coded×, Coded-set}
use Rattle.ep_base.specs.contracts.version.Version as version_facts
use Rattle.ep_base.specs.declared.version.Version.{Version}
use Rattle.ep_journal.specs.Openings.{Opening, opening_code}

-- each has one equality at most, so it may stand in a type
pub one_version : (a b : Version) (p q : a ≡ b) → p ≡ q
one_version a b p q = Coded-set version_facts.the_row.coded a b p q

pub one_opening : (a b : Opening) (p q : a ≡ b) → p ≡ q
one_opening a b p q = Coded-set opening_code a b p q

pub one_start : (a b : Version × Opening) (p q : a ≡ b) → p ≡ q
one_start a b p q = Coded-set (coded× version_facts.the_row.coded opening_code) a b p q
