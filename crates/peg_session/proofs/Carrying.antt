-- The ports that are bound and the datagrams that are sent, one after the other.
use Rattle.std.proofs.Common.{◌≡◌, ◌≢◌, ◌<◌, ◌+◌, ℕ, Option}
use Rattle.std.proofs.Common.{Some, None, List, [], ◌∷◌, ◌++◌, length, map, take, drop, get_or}
use Rattle.std.proofs.Common.{sym, ap, ◌∙◌, arith, append_assoc, length-drop}
use Rattle.std.specs.Prelude.{slice_get}
use Rattle.std.proofs.lemmas.List.{take_more, take-append-drop, append-nil, map-append}
use Rattle.std.proofs.lemmas.Option.{slice_get_within, get_or_from_slice_get}
use Rattle.peg_io.specs.Outside.{Tells, Binds, Attempts, with_port, with_send}
use Rattle.peg_meaning.specs.Wire.{Carried, Sent}
use Rattle.peg_meaning.specs.Session.{Letter, bound_more, sent_more, sent_from}
use Rattle.peg_session.specs.Ends.{BindsSome}
use Rattle.peg_io.proofs.Telling.{Tells_more, Tells_none}

-- ---- ports

pub none_bound :
    (before : Option Carried) (ports : List ℕ)
    → Tells before before (λ c n. n ≡ bound_more (take 0 ports) c)
none_bound before ports =
    Tells_none before (λ c n. n ≡ bound_more (take 0 ports) c)
    (λ c. ap (λ b. record c { bound = b }) (sym (append-nil c.bound)))

pub one_bound :
    (before mid now : Option Carried) (ports : List ℕ) (i port slot : ℕ) → i < length ports
    → port ≡ get_or ports i 0 → Tells before mid (λ c n. n ≡ bound_more (take i ports) c)
    → Tells mid now (Binds port (Some slot))
    → Tells before now (λ c n. n ≡ bound_more (take (i + 1) ports) c)
one_bound before mid now ports i port slot within is done one =
    let e : take (i + 1) ports ≡ take i ports ++ port ∷ [] =
    take_more ports i 0 within ∙ ap (λ p. take i ports ++ p ∷ []) (sym is) in
    Tells_more before mid now (λ c n. n ≡ bound_more (take i ports) c) (Binds port (Some slot))
    (λ c n. n ≡ bound_more (take (i + 1) ports) c)
    (λ c m n a b. b.1 ∙ ap (λ (x : Carried). with_port x port) a
    ∙ ap (λ bs. record c { bound = bs })
    (append_assoc c.bound (take i ports) (port ∷ []) ∙ ap (λ xs. c.bound ++ xs) (sym e)))
    done one

pub no_more_bound :
    (before mid now : Option Carried) (ports : List ℕ) (i port : ℕ) → i < length ports
    → Tells before mid (λ c n. n ≡ bound_more (take i ports) c)
    → Tells mid now (Binds port None) → Tells before now (BindsSome ports)
no_more_bound before mid now ports i port within done none =
    Tells_more before mid now (λ c n. n ≡ bound_more (take i ports) c) (Binds port None)
    (BindsSome ports)
    (λ c m n a b. (
      take i ports,
      drop i ports,
      sym (take-append-drop i ports),
      (λ e. absurd (omega (arith, ap length e, length-drop i ports, within))),
      b ∙ a,
    )) done none

pub is_some : (ports : List ℕ) (i : ℕ) → i < length ports → ports ≢ []
is_some ports i within e = omega (arith, ap length e, within)

-- ---- datagrams

pub none_sent :
    (before : Option Carried) (base : ℕ) (letters : List Letter)
    → Tells before before (λ c n. n ≡ sent_more base (take 0 letters) c)
none_sent before base letters =
    Tells_none before (λ c n. n ≡ sent_more base (take 0 letters) c)
    (λ c. ap (λ (b : List Sent). record c { attempted = b }) (sym (append-nil c.attempted)))

pub one_sent :
    (before mid now : Option Carried) (base : ℕ) (letters : List Letter) (i : ℕ) (l : Letter)
    → slice_get letters i ≡ Some l
    → Tells before mid (λ c n. n ≡ sent_more base (take i letters) c)
    → Tells mid now (Attempts (base + l.slot) l.port l.bytes)
    → Tells before now (λ c n. n ≡ sent_more base (take (i + 1) letters) c)
one_sent before mid now base letters i l is done one =
    let within = slice_get_within letters i l is in
    let e : take (i + 1) letters ≡ take i letters ++ l ∷ [] =
    take_more letters i l within
    ∙ ap (λ (x : Letter). take i letters ++ x ∷ []) (get_or_from_slice_get letters i l l is) in
    Tells_more before mid now (λ c n. n ≡ sent_more base (take i letters) c)
    (Attempts (base + l.slot) l.port l.bytes)
    (λ c n. n ≡ sent_more base (take (i + 1) letters) c)
    (λ c m n a b. b ∙ ap (λ (x : Carried). with_send x (base + l.slot) l.port l.bytes) a
    ∙ ap (λ (bs : List Sent). record c { attempted = bs })
    (append_assoc c.attempted (map (sent_from base (length c.turns)) (take i letters))
    (sent_from base (length c.turns) l ∷ [])
    ∙ ap (λ (xs : List Sent). c.attempted ++ xs)
    (sym (map-append (sent_from base (length c.turns)) (take i letters) (l ∷ []))
    ∙ ap (λ (ls : List Letter). map (sent_from base (length c.turns)) ls) (sym e))))
    done one
