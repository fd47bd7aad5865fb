use Rattle.std.proofs.Common.{◌≡◌, ◌∙◌, ◌&&◌, true, false, not, ap, sym}
use Rattle.ep_base.specs.Interference.{has_key, keys_of, only_reads}
use Rattle.ep_space.specs.Keys.{index_keys}
use Rattle.ep_space.specs.Names.{named}
use Rattle.ep_space.proofs.Once.{many_writes, many_reads, many_no_seals}
use Rattle.ep_space.proofs.names.has_item.Goals as goal

pub returns-in-Seals : goal.returns-in-Seals
returns-in-Seals c = many_no_seals c.args.command.now c.requires ∙ ap (λ n. has_key (named n) (index_keys c.args.command.now)) (sym c.in-Seals.is)

pub returns-then-not-only_reads : goal.returns-then-not-only_reads
returns-then-not-only_reads c =
    let d = c.args.command.now in
    let k = c.in-Writes.key.now in
    let writes : not (only_reads d) ≡ true = sym (ap not c.only_reads.ensures) ∙ ap not c.if-not-only_reads.true in
    c.names.ensures ∙ ap (λ b. b && has_key k (keys_of d)) (sym writes) ∙ many_writes d k c.requires ∙ ap (λ n. has_key (named n) (index_keys d)) (sym c.in-Writes.is)

pub returns-else-not-only_reads : goal.returns-else-not-only_reads
returns-else-not-only_reads c =
    let d = c.args.command.now in
    let k = c.in-Writes.key.now in
    let writes : not (only_reads d) ≡ false = sym (ap not c.only_reads.ensures) ∙ ap not c.if-not-only_reads.false in
    ap not c.if-not-only_reads.false ∙ ap (λ b. b && has_key k (keys_of d)) (sym writes) ∙ many_writes d k c.requires ∙ ap (λ n. has_key (named n) (index_keys d)) (sym c.in-Writes.is)

pub returns-then-only_reads : goal.returns-then-only_reads
returns-then-only_reads c =
    let d = c.args.command.now in
    let k = c.in-Reads.key.now in
    let reads : only_reads d ≡ true = sym c.only_reads-in-Reads.ensures ∙ c.if-only_reads.true in
    c.names-then-only_reads.ensures ∙ ap (λ b. b && has_key k (keys_of d)) (sym reads) ∙ many_reads d k c.requires ∙ ap (λ n. has_key (named n) (index_keys d)) (sym c.in-Reads.is)

pub returns-else-only_reads : goal.returns-else-only_reads
returns-else-only_reads c =
    let d = c.args.command.now in
    let k = c.in-Reads.key.now in
    let reads : only_reads d ≡ false = sym c.only_reads-in-Reads.ensures ∙ c.if-only_reads.false in
    c.if-only_reads.false ∙ ap (λ b. b && has_key k (keys_of d)) (sym reads) ∙ many_reads d k c.requires ∙ ap (λ n. has_key (named n) (index_keys d)) (sym c.in-Reads.is)
