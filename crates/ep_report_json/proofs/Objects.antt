-- Objects, member by member, and arrays, item by item.
use Rattle.std.proofs.Common.{◌≡◌, ◌+◌, ◌<◌, ℕ, zero, suc, Bool, true, false, List, [], ◌∷◌, ◌++◌, Option, codes, length, get_or, drop, map, refl, sym, ap, subst, ◌∙◌, append_assoc, arith}
use Rattle.ep_audit.specs.declared.happening.Happening.{Happening}
use Rattle.ep_base.specs.declared.decree.Decree.{Decree}
use Rattle.ep_json.proofs.Joined.{joined_more, joined_one}
use Rattle.ep_json.specs.Strings.{string_text}
use Rattle.ep_json.specs.Values.{comma, joined, member, name_text, object}
use Rattle.ep_report.specs.Lives.{Life}
use Rattle.ep_report_json.specs.Items.{history_item, history_items}
use Rattle.ep_report_json.specs.JsonReports.{accepted_json, verdict_object}
use Rattle.ep_rules.specs.declared.receipt.Receipt.{Receipt}

-- the beginning, further members, and the end
pub whole :
    (a b c v : List ℕ) (ms : List (List ℕ)) → a ≡ codes "{" ++ member (codes "verdict") (string_text v) → b ≡ a ++ joined false ms → c ≡ b ++ codes "}\n" →
    c ≡ verdict_object v ms
whole a b c v ms e f g =
    g
    ∙ ap (λ (t : List ℕ). t ++ codes "}\n") (f ∙ ap (λ (t : List ℕ). t ++ joined false ms) e)
    ∙ sym (append_assoc (codes "{" ++ member (codes "verdict") (string_text v) ++ joined false ms) (codes "}") (codes "\n"))

-- a member that isn't the first, by its parts
one_member : (o t1 t2 t3 n v : List ℕ) → t1 ≡ o ++ codes "," → t2 ≡ t1 ++ name_text n → t3 ≡ t2 ++ v → t3 ≡ o ++ joined false (member n v ∷ [])
one_member o t1 t2 t3 n v is1 is2 is3 =
    is3
    ∙ ap (λ (t : List ℕ). t ++ v) (is2 ∙ ap (λ (t : List ℕ). t ++ name_text n) is1)
    ∙ append_assoc (o ++ codes ",") (name_text n) v
    ∙ append_assoc o (codes ",") (name_text n ++ v)
    ∙ ap (λ (t : List ℕ). o ++ t) (sym (joined_one (member n v)))

-- two of them
pub two_members :
    (o t1 t2 t3 t4 t5 t6 n v m w : List ℕ) → t1 ≡ o ++ codes "," → t2 ≡ t1 ++ name_text n → t3 ≡ t2 ++ v → t4 ≡ t3 ++ codes "," → t5 ≡ t4 ++ name_text m → t6 ≡ t5 ++ w →
    t6 ≡ o ++ joined false (member n v ∷ member m w ∷ [])
two_members o t1 t2 t3 t4 t5 t6 n v m w is1 is2 is3 is4 is5 is6 =
    joined_more o t3 t6 (member n v ∷ []) (member m w ∷ []) (one_member o t1 t2 t3 n v is1 is2 is3) (one_member t3 t4 t5 t6 m w is4 is5 is6)

joined_first : (x : List ℕ) (xs ys : List (List ℕ)) → joined true ((x ∷ xs) ++ ys) ≡ joined true (x ∷ xs) ++ joined false ys
joined_first x xs ys = sym (joined_more x (x ++ joined false xs) (x ++ joined false xs ++ joined false ys) xs ys refl refl)

-- an object whose members come in three parts, of which the first has some
pub object_reported :
    (o a b c d e x : List ℕ) (xs ys zs : List (List ℕ)) → a ≡ o ++ codes "{" → b ≡ a ++ joined true (x ∷ xs) → c ≡ b ++ joined false ys → d ≡ c ++ joined false zs →
    e ≡ d ++ codes "}" → e ≡ o ++ object ((x ∷ xs) ++ ys ++ zs)
object_reported o a b c d e x xs ys zs is1 is2 is3 is4 is5 =
    let two : c ≡ a ++ joined true ((x ∷ xs) ++ ys) =
    is3 ∙ ap (λ (t : List ℕ). t ++ joined false ys) is2 ∙ append_assoc a (joined true (x ∷ xs)) (joined false ys) ∙ ap (λ (t : List ℕ). a ++ t) (sym (joined_first x xs ys)) in
    let three : d ≡ a ++ joined true ((x ∷ xs) ++ ys ++ zs) =
    is4 ∙ ap (λ (t : List ℕ). t ++ joined false zs) two ∙ append_assoc a (joined true ((x ∷ xs) ++ ys)) (joined false zs) ∙ ap (λ (t : List ℕ). a ++ t) (sym (joined_first x (xs ++ ys) zs)) in
    is5
    ∙ ap (λ (t : List ℕ). t ++ codes "}") (three ∙ ap (λ (t : List ℕ). t ++ joined true ((x ∷ xs) ++ ys ++ zs)) is1)
    ∙ append_assoc (o ++ codes "{") (joined true ((x ∷ xs) ++ ys ++ zs)) (codes "}")
    ∙ append_assoc o (codes "{") (joined true ((x ∷ xs) ++ ys ++ zs) ++ codes "}")

-- Arrays.

-- an item was appended
pub item_more :
    (text text' whole item : List ℕ) (rest : List (List ℕ)) (b : Bool) → text ++ joined b (item ∷ rest) ≡ whole → text' ≡ text ++ comma b ++ item → text' ++ joined false rest ≡ whole
item_more text text' whole item rest b held more =
    ap (λ (t : List ℕ). t ++ joined false rest) (more ∙ append_assoc text (comma b) item) ∙ append_assoc text (comma b ++ item) (joined false rest) ∙ held

drop_next : {A : Type 0} (k : ℕ) (xs : List A) (x d : A) → k < length xs → x ≡ get_or xs k d → drop k xs ≡ x ∷ drop (suc k) xs
drop_next k [] x d less at = absurd (omega arith)
drop_next zero (y ∷ ys) x d less at = ap (λ z. z ∷ ys) (sym at)
drop_next (suc k) (y ∷ ys) x d less at = drop_next k ys x d (omega arith) at

-- that of an element
pub map_more :
    {A : Type 0} (f : A → List ℕ) (k : ℕ) (xs : List A) (x d : A) (b : Bool) (text text' whole : List ℕ) → k < length xs → x ≡ get_or xs k d →
    text ++ joined b (map f (drop k xs)) ≡ whole → text' ≡ text ++ comma b ++ f x → text' ++ joined false (map f (drop (k + 1) xs)) ≡ whole
map_more {A} f k xs x d b text text' whole less at held more =
    let next : suc k ≡ k + 1 = omega arith in
    subst (λ (n : ℕ). text' ++ joined false (map f (drop n xs)) ≡ whole) next
    (item_more text text' whole (f x) (map f (drop (suc k) xs)) b (subst (λ (l : List A). text ++ joined b (map f l) ≡ whole) (drop_next k xs x d less at) held) more)

-- that of a command of the history
pub history_more :
    (k : ℕ) (hs : List Happening) (h d : Happening) (b : Bool) (text text' whole : List ℕ) → k < length hs → h ≡ get_or hs k d →
    text ++ joined b (history_items (k + 1) (drop k hs)) ≡ whole → text' ≡ text ++ comma b ++ history_item (k + 1) h →
    text' ++ joined false (history_items (k + 1 + 1) (drop (k + 1) hs)) ≡ whole
history_more k hs h d b text text' whole less at held more =
    let next : suc k ≡ k + 1 = omega arith in
    subst (λ (n : ℕ). text' ++ joined false (history_items (k + 1 + 1) (drop n hs)) ≡ whole) next
    (item_more text text' whole (history_item (k + 1) h) (history_items (k + 1 + 1) (drop (suc k) hs)) b
    (subst (λ (l : List Happening). text ++ joined b (history_items (k + 1) l) ≡ whole) (drop_next k hs h d less at) held) more)

-- of the same parts
pub accepted_as :
    (text : List ℕ) (life life' : Option Life) (committed committed' : List (ℕ × Decree)) (history history' : List Happening) (receipts : List Receipt) →
    text ≡ accepted_json life committed history receipts → life ≡ life' → committed ≡ committed' → history ≡ history' → text ≡ accepted_json life' committed' history' receipts
accepted_as text life life' committed committed' history history' receipts is p q r = is ∙ (λ i. accepted_json (p i) (q i) (r i) receipts)
