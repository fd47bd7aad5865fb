-- One frame more is copied, or lost; and copies are of one version.
use Rattle.std.proofs.Common.{◌≡◌, ℕ, zero, suc, ◌+◌, List, [], ◌∷◌, ◌++◌, refl, sym, subst, arith, length-append}
use Rattle.std.proofs.lemmas.List.{append-nil}
use Rattle.ep_base.specs.declared.version.Version.{Version}
use Rattle.ep_host.specs.HostFrames.{AreOfVersion}
use Rattle.ep_host.specs.Sent.{IsThinned, none, kept, lost, IsCopied}

thinned_append : {a b c d : List (List ℕ)} → IsThinned a b → IsThinned c d → IsThinned (a ++ c) (b ++ d)
thinned_append none h = h
thinned_append (kept x t) h = kept x (thinned_append t h)
thinned_append (lost y t) h = lost y (thinned_append t h)

pub copied_none : (frames : List (List ℕ)) → frames ≡ [] → IsCopied [] frames 0
copied_none frames e = rw e record { thin = none; counted = refl }

pub copied_kept : (out frames : List (List ℕ)) (n : ℕ) (o : List ℕ) → IsCopied out frames n → IsCopied (out ++ o ∷ []) (frames ++ o ∷ []) n
copied_kept out frames n o h = record {
  thin = thinned_append h.thin (kept o none);
  counted = omega (arith, length-append frames (o ∷ []), length-append out (o ∷ []), h.counted);
}

pub copied_lost : (out frames : List (List ℕ)) (n : ℕ) (o : List ℕ) → IsCopied out frames n → IsCopied (out ++ o ∷ []) frames (n + 1)
copied_lost out frames n o h = record {
  thin = subst (λ (l : List (List ℕ)). IsThinned l (out ++ o ∷ [])) (append-nil frames) (thinned_append h.thin (lost o none));
  counted = omega (arith, length-append out (o ∷ []), h.counted);
}

-- what is copied is of the version that all is of
thinned_all : {xs ys : List (List ℕ)} (v : Version) → IsThinned xs ys → AreOfVersion v ys → AreOfVersion v xs
thinned_all v none h i d low = absurd (omega arith)
thinned_all v (kept x t) h zero d low = h zero d (omega arith)
thinned_all v (kept x t) h (suc i) d low = thinned_all v t (λ j e l. h (suc j) e (omega arith)) i d (omega arith)
thinned_all v (lost y t) h i d low = thinned_all v t (λ j e l. h (suc j) e (omega arith)) i d low

pub copied_all : (v : Version) (out frames : List (List ℕ)) (n : ℕ) → IsCopied out frames n → AreOfVersion v out → AreOfVersion v frames
copied_all v out frames n h all = thinned_all v h.thin all

pub none_all : (v : Version) (frames : List (List ℕ)) → frames ≡ [] → AreOfVersion v frames
none_all v frames e = subst (AreOfVersion v) (sym e) (λ i d low. absurd (omega arith))
