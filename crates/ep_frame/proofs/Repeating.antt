-- One frame, written again for each of several receivers.
use Rattle.std.proofs.Common.{◌≡◌, ◌≢◌, ℕ, suc, ◌+◌, ◌≤◌, ◌<◌, List, [], ◌∷◌, ◌++◌, length, take, drop, sym, ap, subst, ◌∙◌, append_assoc, arith}
use Rattle.std.specs.Prelude.{slice_index_or}
use Rattle.std.specs.List.{concat, AllByRecursion}
use Rattle.std.proofs.lemmas.List.{take_at, drop_at, at_drop_more, length-append}
use Rattle.ep_base.specs.declared.message.Message.{Message}
use Rattle.ep_base.specs.declared.version.Version.{Version}
use Rattle.ep_frame.specs.declared.origin.Origin.{Origin}
use Rattle.ep_frame.specs.Origins.{readdressed}
use Rattle.ep_frame.specs.Rounds.{AreFramesTo, OriginsFit, readdressed_to}
use Rattle.ep_frame.specs.Spelling.{IsFrame, Spells}
use Rattle.ep_frame.proofs.Frames.{frame_long}
use Rattle.ep_frame.proofs.Reorigin.{again, length-readdressed}
use Rattle.ep_frame.proofs.Sound.{frame_again}

-- the next one, and those after it
pub next_frame : (b : List ℕ) (n stamp k : ℕ) (rs : List ℕ) (d : ℕ) → k < length rs → readdressed_to b n stamp k (drop k rs) ≡ readdressed b (record { to = slice_index_or rs k d; out = k; entry = n; stamp = stamp }) ∷ readdressed_to b n stamp (k + 1) (drop (k + 1) rs)
next_frame b n stamp k rs d less =
    let step : suc k ≡ k + 1 = omega arith in
    at_drop_more (λ (xs : List ℕ). readdressed_to b n stamp k xs) rs k d less ∙ ap (λ (j : ℕ). readdressed b (record { to = slice_index_or rs k d; out = k; entry = n; stamp = stamp }) ∷ readdressed_to b n stamp j (drop (k + 1) rs)) step

-- what is read off the front is the next one
pub front_is : (b : List ℕ) (n stamp k : ℕ) (rs : List ℕ) (d : ℕ) (all : List ℕ) → 20 ≤ length b → k < length rs → all ≡ concat (readdressed_to b n stamp k (drop k rs)) → take (length b) all ≡ readdressed b (record { to = slice_index_or rs k d; out = k; entry = n; stamp = stamp })
front_is b n stamp k rs d all long less is =
    let o : Origin = record { to = slice_index_or rs k d; out = k; entry = n; stamp = stamp } in
    ap (take (length b)) (is ∙ ap concat (next_frame b n stamp k rs d less)) ∙ take_at (readdressed b o) (concat (readdressed_to b n stamp (k + 1) (drop (k + 1) rs))) (length b) (length-readdressed b o long)

pub rest_is : (b : List ℕ) (n stamp k : ℕ) (rs : List ℕ) (d : ℕ) (all : List ℕ) → 20 ≤ length b → k < length rs → all ≡ concat (readdressed_to b n stamp k (drop k rs)) → drop (length b) all ≡ concat (readdressed_to b n stamp (k + 1) (drop (k + 1) rs))
rest_is b n stamp k rs d all long less is =
    let o : Origin = record { to = slice_index_or rs k d; out = k; entry = n; stamp = stamp } in
    ap (drop (length b)) (is ∙ ap concat (next_frame b n stamp k rs d less)) ∙ drop_at (readdressed b o) (concat (readdressed_to b n stamp (k + 1) (drop (k + 1) rs))) (length b) (length-readdressed b o long)

pub front_fits : (b : List ℕ) (n stamp k : ℕ) (rs : List ℕ) (d : ℕ) (all : List ℕ) → 20 ≤ length b → k < length rs → all ≡ concat (readdressed_to b n stamp k (drop k rs)) → length b ≤ length all
front_fits b n stamp k rs d all long less is =
    let o : Origin = record { to = slice_index_or rs k d; out = k; entry = n; stamp = stamp } in
    let rest : List ℕ = concat (readdressed_to b n stamp (k + 1) (drop (k + 1) rs)) in
    let whole : length all ≡ length (readdressed b o ++ rest) = ap length (is ∙ ap concat (next_frame b n stamp k rs d less)) in
    omega (arith, whole, length-append (readdressed b o) rest, length-readdressed b o long)

-- the next one is a frame, and so are those after it
pub frames_next : (b : List ℕ) (n stamp k : ℕ) (rs : List ℕ) (d : ℕ) → k < length rs → AllByRecursion (λ x. IsFrame x) (readdressed_to b n stamp k (drop k rs)) →
    IsFrame (readdressed b (record { to = slice_index_or rs k d; out = k; entry = n; stamp = stamp })) × AllByRecursion (λ x. IsFrame x) (readdressed_to b n stamp (k + 1) (drop (k + 1) rs))
frames_next b n stamp k rs d less all = subst (λ (xss : List (List ℕ)). AllByRecursion (λ x. IsFrame x) xss) (next_frame b n stamp k rs d less) all

-- it is put behind those that are there
pub listed_next : (b : List ℕ) (n stamp k : ℕ) (rs : List ℕ) (d : ℕ) (done done' all : List (List ℕ)) (x : List ℕ) → k < length rs → done ++ readdressed_to b n stamp k (drop k rs) ≡ all → done' ≡ done ++ x ∷ [] → x ≡ readdressed b (record { to = slice_index_or rs k d; out = k; entry = n; stamp = stamp }) →
    done' ++ readdressed_to b n stamp (k + 1) (drop (k + 1) rs) ≡ all
listed_next b n stamp k rs d done done' all x less before is same =
    let o : List ℕ = readdressed b (record { to = slice_index_or rs k d; out = k; entry = n; stamp = stamp }) in
    let rest : List (List ℕ) = readdressed_to b n stamp (k + 1) (drop (k + 1) rs) in
    ap (λ (xs : List (List ℕ)). xs ++ rest) is ∙ append_assoc done (x ∷ []) rest ∙ ap (λ (y : List ℕ). done ++ y ∷ rest) same ∙ ap (λ (xss : List (List ℕ)). done ++ xss) (sym (next_frame b n stamp k rs d less)) ∙ before

-- a frame has more than its front
pub long : (v : Version) (b : List ℕ) (from : ℕ) (o : Origin) (m : Message) → Spells v b from o m → 20 ≤ length b
long v b from o m s = let all = frame_long b (frame_again v b from o m s) in omega arith

-- each of them is the receiver's frame
pub spelled_to : (v : Version) (b : List ℕ) (from : ℕ) (o : Origin) (m : Message) (n stamp k : ℕ) (rs : List ℕ) → Spells v b from o m → AllByRecursion (λ r. r ≢ from) rs → OriginsFit n stamp k rs → AreFramesTo v from m n stamp k rs (readdressed_to b n stamp k rs)
spelled_to v b from o m n stamp k [] s apart fits = tt
spelled_to v b from o m n stamp k (r ∷ rs) s apart fits = (again v b from o (record { to = r; out = k; entry = n; stamp = stamp }) m s apart.0 fits.0, spelled_to v b from o m n stamp (suc k) rs s apart.1 fits.1)

pub frames_to : (v : Version) (b : List ℕ) (from : ℕ) (o : Origin) (m : Message) (n stamp k : ℕ) (rs : List ℕ) → Spells v b from o m → AllByRecursion (λ r. r ≢ from) rs → OriginsFit n stamp k rs → AllByRecursion (λ x. IsFrame x) (readdressed_to b n stamp k rs)
frames_to v b from o m n stamp k [] s apart fits = tt
frames_to v b from o m n stamp k (r ∷ rs) s apart fits =
    let p : Origin = record { to = r; out = k; entry = n; stamp = stamp } in
    ((v, from, p, m, again v b from o p m s apart.0 fits.0), frames_to v b from o m n stamp (suc k) rs s apart.1 fits.1)
