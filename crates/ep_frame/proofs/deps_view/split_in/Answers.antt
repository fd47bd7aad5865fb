use Rattle.std.proofs.Common.{List, ℕ, ◌++◌, length, sym, subst, ap, ◌∙◌}
use Rattle.ep_frame.specs.Fields.{deps_in}
use Rattle.ep_frame.specs.DepBytes.{AreDepBytes}
use Rattle.ep_frame.proofs.DepBytes.{split}
use Rattle.ep_frame.proofs.deps_view.split_in.Goals as goal

pub returns-clause-deps : goal.returns-clause-deps
returns-clause-deps c =
    let s = split c.args.bytes.now c.args.count c.requires.bytes c.requires.within in
    s.deps ∙ (λ t. deps_in (sym c.split_at.ensures.front t) ++ deps_in (sym c.split_at.ensures.back t))

pub returns-clause-count : goal.returns-clause-count
returns-clause-count c =
    let s = split c.args.bytes.now c.args.count c.requires.bytes c.requires.within in
    ap (λ (b : List ℕ). length (deps_in b)) c.split_at.ensures.front ∙ s.count

pub returns-clause-first : goal.returns-clause-first
returns-clause-first c =
    let s = split c.args.bytes.now c.args.count c.requires.bytes c.requires.within in
    subst AreDepBytes (sym c.split_at.ensures.front) s.first

pub returns-clause-second : goal.returns-clause-second
returns-clause-second c =
    let s = split c.args.bytes.now c.args.count c.requires.bytes c.requires.within in
    subst AreDepBytes (sym c.split_at.ensures.back) s.second
