-- What a command over many keys writes, one key after the other.
use Rattle.std.proofs.Common.{◌≡◌, sym, ℕ, List, [], ◌∷◌, ◌++◌, Option, Some, true, refl, ap, ◌∙◌}
use Rattle.ep_base.specs.Items.{Item}
use Rattle.ep_rules.specs.OneMap.{Contents, value_at, with_key, with_write, with_writes}
use Rattle.ep_exec.specs.Many.{put_all, AreRoomy}
use Rattle.ep_exec.specs.Table.{Entry, has_place, restored}
use Rattle.ep_exec.specs.declared.many.Write.{Write}
use Rattle.ep_exec.proofs.Entries.{restored-push, with_key_back}

pub put_all-push : (ws : List Write) (w : Write) (m : Contents)
    → put_all (ws ++ w ∷ []) m ≡ with_key (put_all ws m) w.key.items w.value
put_all-push [] w m = refl
put_all-push (v ∷ ws) w m = put_all-push ws w (with_key m v.key.items v.value)

-- what one more item writes
pub written_more : (ws : List Write) (w : Write) (m : Contents) (i : Item) (is : List Item) (o : Option (List ℕ))
    → i.write ≡ Some o → w.key.items ≡ i.key → w.value ≡ o
    → with_writes (put_all (ws ++ w ∷ []) m) is ≡ with_writes (put_all ws m) (i ∷ is)
written_more ws w m i is o e key value =
    let all = put_all ws m in
    ap (λ n. with_writes n is)
    (put_all-push ws w m ∙ (λ t. with_key all (key t) (value t)) ∙ ap (with_write all i.key) (sym e))

-- places that stay keep those of what is to be written
pub roomy_kept : (old new : List Entry) (ws : List Write)
    → ((q : List ℕ) → has_place old q ≡ true → has_place new q ≡ true) → AreRoomy old ws → AreRoomy new ws
roomy_kept old new [] h p = tt
roomy_kept old new (w ∷ ws) h p = (h w.key.items p.0, p.1, roomy_kept old new ws h p.2)

pub roomy_push : (es : List Entry) (ws : List Write) (w : Write)
    → AreRoomy es ws → has_place es w.key.items ≡ true → w.noted.items ≡ w.key.items → AreRoomy es (ws ++ w ∷ [])
roomy_push es [] w p h same = (h, same, tt)
roomy_push es (v ∷ ws) w p h same = (p.0, p.1, roomy_push es ws w p.2 h same)

-- what is noted takes what is written back
pub noted_back : (us new : List Entry) (u : Entry) (m n : Contents) (k : List ℕ) (o : Option (List ℕ))
    → new ≡ us ++ u ∷ [] → n ≡ with_key m k o → u.0.items ≡ k → u.1 ≡ value_at m k
    → restored new n ≡ restored us m
noted_back us new u m n k o items is key was =
    ap (λ xs. restored xs n) items
    ∙ restored-push us u n
    ∙ ap (restored us) ((λ t. with_key (is t) (key t) (was t)) ∙ with_key_back m k o)
