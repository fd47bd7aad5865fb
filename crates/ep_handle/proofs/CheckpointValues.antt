-- The machine value of a `CheckpointHandle`, and what it owns. Assumes `Logic`.
use Rattle.std.proofs.Common.{◌≡◌, ℕ, List, [], ◌∷◌, ◌++◌, refl, sym, subst, lit<}
use seplogic.Ra.Ura.{Ura}
use mir.Raw.{raw as bare}
use mir.Val.{Val, vstruct, vcons, vnil, of_list}
use base.Logic.{ent, guard, never, via, fst∗, snd∗, guard_i}
use base.Fraction.{full_share}
use types.Logic.{Logic, sem}
use types.Kit.{Item, Goal, Seq, Step, step, ‵, given, ◌$◌, drop, learn, use1, fsplit, fjoin, fpick, fpack, feq_i, feq_l}
use contract.Monad.{fact_use}
use denote.RattleType.{RattleType, Valss}
use denote.Builtin.{RawPtr}
use denote.Memory.{lone}
use denote.RawPtr.{Ptr, block_ptr, null_ptr, ptr_val, InBlock, Testable, lies_at, in_a_block}
use denote.Steps.{nothing}
use denote.Param.{layout}
use denote.Struct.Struct.{within}
use denote.Struct.Owning.{shape}
use Rattle.core.proofs.cell.Inside.{Good}
use Rattle.std.specs.declared.option.Option.{Option}
use Rattle.std.specs.declared.option.Option.TheVariants.{None, Some}
use Rattle.std.proofs.GlobalToken.{dealloc_token-Testable}
use Rattle.std.specs.contracts.impls.GlobalAllocator.TheImpl.{ghosts}
use Rattle.ep_handle.specs.Held.{heap, boxed, held}
use Rattle.ep_handle.specs.contracts.checkpoint_handle.CheckpointHandle as handle
use Rattle.ep_embedded.specs.contracts.hosted_checkpoint.HostedCheckpoint.{the_row as K}

abbrev pub H : RattleType
H = handle.the_row

abbrev pub word : Ptr → Val
word p = vstruct (vcons (ptr_val p) vnil)

pub word_good : (p : Ptr) → Good (layout H) (word p)
word_good (block_ptr b o) = (tt, (tt, tt))
word_good null_ptr = (tt, (record { fits = lit< tt }, tt))

module _ {M : Type 1} {𝓤 : Ura M} (𝓛 : Logic 𝓤) where
  pub tested : (p : Ptr) (x : K.Denot) → ent 𝓤 (sem 𝓛 (boxed K p x)) (guard 𝓤 (Testable p) (sem 𝓛 (boxed K p x)))
  tested p x = let B = sem 𝓛 (boxed K p x) in
      fact_use 𝓤 (Testable p) (via 𝓤 (sem 𝓛 (ghosts.dealloc_token heap (bare (lone K.mir)) p)) (snd∗ 𝓤 (sem 𝓛 (lies_at K full_share p x)) (sem 𝓛 (ghosts.dealloc_token heap (bare (lone K.mir)) p))) (dealloc_token-Testable 𝓛 heap (bare (lone K.mir)) p)) (guard_i 𝓤 (Testable p) B)

module _ {M : Type 1} {𝓤 : Ura M} {𝓛 : Logic 𝓤} {X : Type 0} {Γ : List (Item 𝓤)} {G : Goal 𝓤 𝓛.H} where
  pub handle_in : X → (p : Ptr) (o : Option K.Denot) → Step X 𝓛 (‵ (H.own_val (record { at = p; value = o }) (word p ∷ [])) ∷ Γ) G (‵ (held K p o) ∷ Γ) G
  handle_in t p o = step (λ s.
      nothing t $ feq_i t (List Val) (ptr_val p ∷ []) (ptr_val p ∷ []) refl $ fjoin t $ feq_i t (List Val) (word p ∷ []) (word p ∷ []) refl $ fjoin t $
      fpack t (Valss (RawPtr ∷ [])) (within (shape handle.the_type) (p, tt) (word p ∷ [])) (ptr_val p ∷ [], tt) $ fjoin t $ s)

  pub handle_out : X → (d : H.Denot) (vs : List Val) → (vs ≡ word d.at ∷ [] → Seq X 𝓛 (‵ (held K d.at d.value) ∷ Γ) G) → Seq X 𝓛 (‵ (H.own_val d vs) ∷ Γ) G
  handle_out t d vs k =
      fsplit t $ fpick t (λ vss. fsplit t $ feq_l t (λ ev. fsplit t $ feq_l t (λ ep. drop t $
      k (subst (λ (ps : List Val). vs ≡ vstruct (of_list (ps ++ [])) ∷ []) ep ev))))

  pub either_held : X → (p : Ptr) (o : Option K.Denot) → (p ≡ null_ptr → o ≡ None → Seq X 𝓛 Γ G)
      → ((b c : ℕ) (x : K.Denot) → p ≡ block_ptr b c → o ≡ Some x → Testable (block_ptr b c) → Seq X 𝓛 (‵ (boxed K (block_ptr b c) x) ∷ Γ) G) → Seq X 𝓛 (‵ (held K p o) ∷ Γ) G
  either_held t null_ptr None none one = drop t $ none refl refl
  either_held t null_ptr (Some x) none one =
      in_a_block t null_ptr (λ q. boxed K q x) (fst∗ 𝓤 (never 𝓤) (sem 𝓛 (ghosts.dealloc_token heap (bare (lone K.mir)) null_ptr))) (λ b c e. absurd (subst InBlock (sym e) tt))
  either_held t (block_ptr b c) None none one = feq_l t (λ e. absurd (subst InBlock e tt))
  either_held t (block_ptr b c) (Some x) none one =
      use1 𝓛 (given (Testable (block_ptr b c)) (‵ (boxed K (block_ptr b c) x))) (tested 𝓛 (block_ptr b c) x) $ learn t (λ may. one b c x refl refl may)
