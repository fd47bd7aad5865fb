-- What the words after the options of a run ask for.
use Rattle.std.proofs.Common.{◌≡◌, inl, inr, ℕ, Option, Some, None, Result, Ok, IfOk, codes, refl, sym, subst, ◌∙◌}
use Rattle.clap.specs.Walk.{Text}
use Rattle.ep_script.specs.Grammar.{number_in}
use Rattle.ep_main.specs.Options.{Options}
use Rattle.ep_main.specs.Words.{Chooses, NamesHost, RunWords, limit_in}
use Rattle.ep_main.specs.declared.asked.Emit.{Emit}
use Rattle.ep_cli.specs.declared.words_fault.WordsFault.{WordsFault}
use Rattle.ep_main.specs.declared.host.Host.{Host}
use Rattle.ep_main.specs.declared.host.Host.TheVariants.{Lock, Ring}

pub ok_is : {A : Type 0} (x y : A) → ◌≡◌ {A = Result A WordsFault} (Ok x) (Ok y) → x ≡ y
ok_is {A} x y same = cc

pub chosen_as : (words : RunWords) (a b : Options) → a ≡ b → Chooses words b → Chooses words a
chosen_as words a b same chooses = subst (Chooses words) (sym same) chooses

pub options_are :
    (h : Host) (e : Emit) (capacity turns : ℕ) (o : Options) → h ≡ o.host → e ≡ o.emit → capacity ≡ o.capacity → turns ≡ o.turns →
    record { host = h; emit = e; capacity = capacity; turns = turns } ≡ o
options_are h e capacity turns o p q r s = λ i. record { host = p i; emit = q i; capacity = r i; turns = s i }

is_lock : (what : Text) (o : Option Text) → Some what ≡ o → NamesHost o Lock → what ≡ codes "lock"
is_lock what o is (inl none) = let e : Some what ≡ None = is ∙ none in cc
is_lock what o is (inr some) = let e : Some what ≡ Some (codes "lock") = is ∙ some in cc

pub host_as :
    (host : Host) (what : Text) (o : Option Text) (r : Result Host WordsFault) → Some what ≡ o → (what ≡ codes "lock" → r ≡ Ok Lock) → (what ≡ codes "ring" → r ≡ Ok Ring) →
    NamesHost o host → r ≡ Ok host
host_as Lock what o r is lock ring names = lock (is_lock what o is names)
host_as Ring what o r is lock ring names = ring (let e : Some what ≡ Some (codes "ring") = is ∙ names in cc)

none_hosts : (host : Host) (o : Option Text) → None ≡ o → NamesHost o host → Lock ≡ host
none_hosts Lock o is names = refl
none_hosts Ring o is names = let bad : None ≡ Some (codes "ring") = is ∙ names in cc

pub no_host : (host : Host) (o : Option Text) (r : Result Host WordsFault) → r ≡ Ok Lock → None ≡ o → NamesHost o host → r ≡ Ok host
no_host host o r locks is names = subst (λ h. r ≡ Ok h) (none_hosts host o is names) locks

pub spelled_as :
    (most default : ℕ) (word : Text) (o : Option Text) (r : Result ℕ WordsFault) → Some word ≡ o → ((n : ℕ) → number_in 1 most word ≡ Some n → r ≡ Ok n) → (n : ℕ) →
    limit_in most default o ≡ Some n → r ≡ Ok n
spelled_as most default word o r is gives n spelled = gives n (subst (λ x. limit_in most default x ≡ Some n) (sym is) spelled)

pub only_as :
    (most default : ℕ) (word : Text) (o : Option Text) (r : Result ℕ WordsFault) → Some word ≡ o → IfOk r (λ n. number_in 1 most word ≡ Some n) → IfOk r (λ n. limit_in most default o ≡ Some n)
only_as most default word o r is only = subst (λ x. IfOk r (λ n. limit_in most default x ≡ Some n)) is only

pub not_spelled : (most default : ℕ) (o : Option Text) → None ≡ o → (n : ℕ) → limit_in most default o ≡ Some n → ◌≡◌ {A = Result ℕ WordsFault} (Ok default) (Ok n)
not_spelled most default o is n spelled =
    let e : Some default ≡ Some n = subst (λ x. limit_in most default x ≡ Some n) (sym is) spelled in cc

pub default_is : (most default : ℕ) (o : Option Text) → None ≡ o → limit_in most default o ≡ Some default
default_is most default o is = subst (λ x. limit_in most default x ≡ Some default) is refl
