-- One proposal and one receipt more.
use Rattle.std.proofs.Common.{◌≡◌, ℕ, ◌+◌, max, eqb, cond, Bool, true, false, List, [], ◌∷◌, ◌++◌, refl, sym, ap, subst, ◌∙◌, arith}
use Rattle.std.proofs.lemmas.Bool.{eqb-true}
use Rattle.ep_rules.specs.declared.receipt.Receipt.{Receipt}
use Rattle.ep_replay.specs.Clients.{times, greatest}
use Rattle.ep_replay.specs.Tables.{known, AreCounted}
use Rattle.ep_replay.specs.declared.clients.Client.{Client}
use Rattle.ep_replay.specs.declared.clients.Clients.{Clients}

times_more : (c : ℕ) (ds : List ℕ) (d : ℕ) → times c (ds ++ d ∷ []) ≡ times c ds + cond (eqb d c) 1 0
times_more c [] d = omega arith
times_more c (x ∷ ds) d = let h : times c (ds ++ d ∷ []) ≡ times c ds + cond (eqb d c) 1 0 = times_more c ds d in omega arith

greatest_more : (c : ℕ) (ts : List Receipt) (t : Receipt) → greatest c (ts ++ t ∷ []) ≡ max (greatest c ts) (cond (eqb t.client c) t.stamp 0)
greatest_more c [] t = omega arith
greatest_more c (x ∷ ts) t = let h : greatest c (ts ++ t ∷ []) ≡ max (greatest c ts) (cond (eqb t.client c) t.stamp 0) = greatest_more c ts t in omega arith

same_client : (k l : Client) → k.requests ≡ l.requests → k.seen ≡ l.seen → k ≡ l
same_client k l er es = λ t. record { requests = er t; seen = es t }

pub counted : (old new : Clients) (client : ℕ) (k : Client) (ps : List ℕ) (ts : List Receipt) → k.requests ≡ (known old client).requests + 1 → k.seen ≡ (known old client).seen
    → ((c : ℕ) → known new c ≡ cond (eqb client c) k (known old c)) → AreCounted old ps ts → AreCounted new (ps ++ client ∷ []) ts
counted old new client k ps ts more same sets are c = go (eqb client c) refl (sets c)
  where
    go : (b : Bool) → eqb client c ≡ b → known new c ≡ cond b k (known old c) → known new c ≡ record { requests = times c (ps ++ client ∷ []); seen = greatest c ts }
    go true test is =
        let this : client ≡ c = eqb-true client c test in
        let was = subst (λ (d : ℕ). known old client ≡ record { requests = times d ps; seen = greatest d ts }) this (are client) in
        let one : times c (ps ++ client ∷ []) ≡ times c ps + 1 = times_more c ps client ∙ ap (λ (b : Bool). times c ps + cond b 1 0) test in
        is ∙ same_client k (record { requests = times c (ps ++ client ∷ []); seen = greatest c ts })
        (more ∙ ap (λ (l : Client). l.requests + 1) was ∙ sym one)
        (same ∙ ap (λ (l : Client). l.seen) was)
    go false test is =
        let none : times c (ps ++ client ∷ []) ≡ times c ps = times_more c ps client ∙ ap (λ (b : Bool). times c ps + cond b 1 0) test ∙ (omega arith) in
        is ∙ are c ∙ ap (λ n. record { requests = n; seen = greatest c ts }) (sym none)

pub noted : (old new : Clients) (t : Receipt) (k : Client) (ps : List ℕ) (ts : List Receipt) → k.requests ≡ (known old t.client).requests → k.seen ≡ max (known old t.client).seen t.stamp
    → ((c : ℕ) → known new c ≡ cond (eqb t.client c) k (known old c)) → AreCounted old ps ts → AreCounted new ps (ts ++ t ∷ [])
noted old new t k ps ts same more sets are c = go (eqb t.client c) refl (sets c)
  where
    go : (b : Bool) → eqb t.client c ≡ b → known new c ≡ cond b k (known old c) → known new c ≡ record { requests = times c ps; seen = greatest c (ts ++ t ∷ []) }
    go true test is =
        let this : t.client ≡ c = eqb-true t.client c test in
        let was = subst (λ (d : ℕ). known old t.client ≡ record { requests = times d ps; seen = greatest d ts }) this (are t.client) in
        let one : greatest c (ts ++ t ∷ []) ≡ max (greatest c ts) t.stamp = greatest_more c ts t ∙ ap (λ (b : Bool). max (greatest c ts) (cond b t.stamp 0)) test in
        is ∙ same_client k (record { requests = times c ps; seen = greatest c (ts ++ t ∷ []) })
        (same ∙ ap (λ (l : Client). l.requests) was)
        (more ∙ ap (λ (l : Client). max l.seen t.stamp) was ∙ sym one)
    go false test is =
        let none : greatest c (ts ++ t ∷ []) ≡ greatest c ts = greatest_more c ts t ∙ ap (λ (b : Bool). max (greatest c ts) (cond b t.stamp 0)) test ∙ (omega arith) in
        is ∙ are c ∙ ap (λ n. record { requests = times c ps; seen = n }) (sym none)
