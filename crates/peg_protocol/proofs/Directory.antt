-- Look-ups after a change of the directory, and holders.
use Rattle.std.proofs.Common.{◌≡◌, ℕ, zero, suc, length, ◌<◌, ◌==◌, Bool, true, false, cond, List}
use Rattle.std.proofs.Common.{[], ◌∷◌, Option, Some, None, ◌++◌, arith, ap, sym, refl, ◌∙◌}
use Rattle.std.proofs.Common.{eqb-true, eq-eqb, ne_eqb, get_or, nat_lt, option_to_list}
use Rattle.std.proofs.lemmas.Bool.{cond_both}
use Rattle.std.specs.List.{AllByRecursion}
use Rattle.peg_protocol.specs.Core.{Entry, entry_of, put, add_holder}

abbrev pub OfKey : ℕ → Option Entry → Type 0
OfKey k None = Unit {0}
OfKey k (Some e) = e.key ≡ k

skip_option : (j k : ℕ) (o : Option Entry) (es : List Entry) → OfKey k o → (j ≡ k → ⊥) →
    entry_of j (option_to_list o ++ es) ≡ entry_of j es
skip_option j k None es of ne = refl
skip_option j k (Some e) es of ne =
    let f : (e.key == j) ≡ false = ne_eqb e.key j (λ h. ne (sym h ∙ of)) in
    rw f

skip_other : (j k : ℕ) (e : Entry) (es : List Entry) → e.key ≡ k → (j ≡ k → ⊥) →
    entry_of j (e ∷ es) ≡ entry_of j es
skip_other j k e es of ne =
    let f : (e.key == j) ≡ false = ne_eqb e.key j (λ h. ne (sym h ∙ of)) in
    rw f

pub entry_of-put_other : (j k : ℕ) (o : Option Entry) (es : List Entry) → OfKey k o → (j ≡ k → ⊥) →
    entry_of j (put k o es) ≡ entry_of j es
entry_of-put_other j k o [] of ne = refl
entry_of-put_other j k o (e ∷ es) of ne =
    let ih = entry_of-put_other j k o es of ne in
    cond_both (e.key == k) (option_to_list o ++ put k o es) (e ∷ put k o es)
    (λ l. entry_of j l ≡ entry_of j (e ∷ es))
    (λ y. skip_option j k o (put k o es) of ne ∙ ih
    ∙ sym (skip_other j k e es (eqb-true e.key k y) ne))
    (λ n. ap (λ r. cond (e.key == j) (Some e) r) ih)

none_left : (k : ℕ) (es : List Entry) → entry_of k (put k None es) ≡ None
none_left k [] = refl
none_left k (e ∷ es) =
    cond_both (e.key == k) (put k None es) (e ∷ put k None es) (λ l. entry_of k l ≡ None)
    (λ y. none_left k es)
    (λ n. rw n (none_left k es))

pub entry_of-put_same : (k : ℕ) (o : Option Entry) (es : List Entry) (e : Entry) → OfKey k o →
    entry_of k es ≡ Some e → entry_of k (put k o es) ≡ o
entry_of-put_same k None es e of is = none_left k es
entry_of-put_same k (Some e') [] e of is = cc
entry_of-put_same k (Some e') (f ∷ es) e of is =
    cond_both (f.key == k) (e' ∷ put k (Some e') es) (f ∷ put k (Some e') es)
    (λ l. entry_of k l ≡ Some e')
    (λ y. rw (eq-eqb e'.key k of) refl)
    (λ n. rw n (entry_of-put_same k (Some e') es e of (rw n at is)))

pub entry_of-push_same : (k : ℕ) (es : List Entry) (e : Entry) → e.key ≡ k → entry_of k es ≡ None →
    entry_of k (es ++ e ∷ []) ≡ Some e
entry_of-push_same k [] e of is = rw (eq-eqb e.key k of) refl
entry_of-push_same k (f ∷ es) e of is =
    let go : (b : Bool) → cond b (Some f) (entry_of k es) ≡ None →
    cond b (Some f) (entry_of k (es ++ e ∷ [])) ≡ Some e =
    λ b. elim b as
    (λ v. cond v (Some f) (entry_of k es) ≡ None →
    cond v (Some f) (entry_of k (es ++ e ∷ [])) ≡ Some e)
    [ true ↦ λ h. cc | false ↦ λ h. entry_of-push_same k es e of h ] in
    go (f.key == k) is

pub entry_of-push_other : (j k : ℕ) (es : List Entry) (e : Entry) → e.key ≡ k → (j ≡ k → ⊥) →
    entry_of j (es ++ e ∷ []) ≡ entry_of j es
entry_of-push_other j k [] e of ne = skip_other j k e [] of ne
entry_of-push_other j k (f ∷ es) e of ne =
    ap (λ r. cond (f.key == j) (Some f) r) (entry_of-push_other j k es e of ne)

-- an entry that is found has the key
pub all_added : (P : ℕ → Type 0) (s : ℕ) (ss : List ℕ) → P s → AllByRecursion P ss →
    AllByRecursion P (add_holder s ss)
all_added P s [] h all = (h, tt)
all_added P s (t ∷ ts) h all =
    cond_both (nat_lt s t) (s ∷ t ∷ ts) (cond (s == t) (t ∷ ts) (t ∷ add_holder s ts))
    (AllByRecursion P)
    (λ y. (h, all))
    (λ n. cond_both (s == t) (t ∷ ts) (t ∷ add_holder s ts) (AllByRecursion P) (λ y. all)
    (λ n. (all.0, all_added P s ts h all.1)))

pub some_added : (s : ℕ) (ss : List ℕ) → 0 < length (add_holder s ss)
some_added s [] = omega arith
some_added s (t ∷ ts) =
    cond_both (nat_lt s t) (s ∷ t ∷ ts) (cond (s == t) (t ∷ ts) (t ∷ add_holder s ts))
    (λ l. 0 < length l)
    (λ y. omega arith)
    (λ n. cond_both (s == t) (t ∷ ts) (t ∷ add_holder s ts) (λ l. 0 < length l) (λ y. omega arith)
    (λ n. omega arith))

pub all_at : (P : ℕ → Type 0) (ss : List ℕ) (i : ℕ) → i < length ss → AllByRecursion P ss →
    P (get_or ss i 0)
all_at P [] i l all = absurd (omega (arith, l))
all_at P (s ∷ ss) zero l all = all.0
all_at P (s ∷ ss) (suc i) l all = all_at P ss i (omega (arith, l)) all.1
