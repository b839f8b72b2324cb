-- Each step of a server is one of the protocol machine.
use Rattle.std.proofs.Common.{◌≡◌, ℕ, Bool, true, false, List}
use Rattle.std.proofs.Common.{cond, refl, sym, ap, ◌∙◌, nat_lt}
use Rattle.std.proofs.Common.{eq-eqb}
use Rattle.std.proofs.lemmas.Slice.Eq.{bytes_eq-Decides}
use Rattle.std.proofs.lemmas.Bool.{cond-true}
use Rattle.std.specs.Str.{bytes_eq}
use Rattle.peg_name.specs.Name.{Rack}
use Rattle.peg_name.specs.declared.value.Content.{Content}
use Rattle.peg_event.specs.declared.answers.Stored.{Stored}
use Rattle.peg_event.specs.declared.ServerDid.TheVariants as did
use Rattle.peg_model.specs.Words.{refuse}
use Rattle.peg_model.specs.Packet.{Packet}
use Rattle.peg_model.specs.Server.{Server, held, with_stored, with_pair, applied}
use Rattle.peg_model.specs.Server.{server_takes, serve, server_step}
use Rattle.peg_law.specs.Codes.{number_of, content_code, pair_code, guard_code}
use Rattle.peg_law.specs.Mirrors.{ServerFits}
use Rattle.peg_law.proofs.Codes.{number_test}
use Rattle.peg_law.proofs.Stores.{held_after}
use Rattle.peg_protocol.specs.Core.{at_two}
use Rattle.peg_protocol.specs.Machine.{Pair, Guard, newer}

pub served : (sv : Server) (p : Packet) → server_takes sv.rack sv.id p ≡ true →
    server_step sv p ≡ serve sv p
unfolding server_step
served sv p e = cond-true (server_takes sv.rack sv.id p) (serve sv p) (refuse sv did.OutOfPlace) e

-- ---- a key of the store has something new

pub two_at :
    {A : Type 0} (f : ℕ → ℕ → A) (t : ℕ) (key q : List ℕ) (x : A)
    → at_two f t (number_of key) x t (number_of q) ≡ cond (bytes_eq q key) x (f t (number_of q))
two_at f t key q x = rw (eq-eqb t t refl) (rw (number_test q key) refl)

module _ (rack : Rack) (t : ℕ) (sv : Server) (pairs : ℕ → Pair) (guards : ℕ → Guard)
    (f : ServerFits rack t sv pairs guards) where
  pub updated :
      (key : List ℕ) (now : Stored) (pairs' : ℕ → Pair) (guards' : ℕ → Guard)
      → ((q : List ℕ)
      → pairs' (number_of q) ≡ cond (bytes_eq q key) (pair_code now) (pairs (number_of q)))
      → ((q : List ℕ)
      → guards' (number_of q) ≡ cond (bytes_eq q key) (guard_code now) (guards (number_of q)))
      → ServerFits rack t (record sv { store = with_stored sv.store key now }) pairs' guards'
  updated key now pairs' guards' e1 e2 =
      record {
        rack_is = f.rack_is;
        id_is = f.id_is;
        keys = λ q. record {
          pair_is = e1 q ∙ pushed q (λ x. pair_code x) (pairs (number_of q)) (f.keys q).pair_is;
          guard_is = e2 q ∙ pushed q (λ x. guard_code x) (guards (number_of q)) (f.keys q).guard_is;
        };
      }
    where
      pushed :
          (q : List ℕ) {A : Type 0} (g : Stored → A) (was : A) → was ≡ g (held sv.store q)
          → cond (bytes_eq q key) (g now) was ≡ g (held (with_stored sv.store key now) q)
      pushed q g was e =
          ap (λ x. cond (bytes_eq q key) (g now) x) e ∙ out (bytes_eq q key)
          ∙ ap g (sym (held_after sv.store key now q))
        where
          out : (b : Bool) → cond b (g now) (g (held sv.store q)) ≡ g (cond b now (held sv.store q))
          out true = refl
          out false = refl

  -- what a key has already is the same at it
  kept_at :
      {A : Type 0} (g : Stored → A) (h : ℕ → A) (key : List ℕ)
      → h (number_of key) ≡ g (held sv.store key) → (q : List ℕ)
      → h (number_of q) ≡ cond (bytes_eq q key) (g (held sv.store key)) (h (number_of q))
  kept_at g h key e q = by_test (bytes_eq q key) refl
    where
      by_test :
          (b : Bool) → bytes_eq q key ≡ b
          → h (number_of q) ≡ cond b (g (held sv.store key)) (h (number_of q))
      by_test true y = ap (λ k. h (number_of k)) ((bytes_eq-Decides q key).0 y) ∙ e
      by_test false y = refl

  -- a version and a content, where the version is greater
  pub applied_fits :
      (key : List ℕ) (version : ℕ) (content : Content) (pairs' : ℕ → Pair)
      → ((q : List ℕ)
      → pairs' (number_of q)
      ≡ cond (bytes_eq q key) (newer (pairs (number_of key)) version (content_code content))
      (pairs (number_of q)))
      → ServerFits rack t (record sv { store = applied sv.store key version content }) pairs' guards
  applied_fits key version content pairs' e =
      by_test (nat_lt (held sv.store key).version version)
      (λ q.
      e q
      ∙ ap
      (λ p. cond (bytes_eq q key) (newer p version (content_code content)) (pairs (number_of q)))
      (f.keys key).pair_is)
    where
      was : Stored
      was = held sv.store key

      by_test :
          (b : Bool)
          → ((q : List ℕ)
          → pairs' (number_of q)
          ≡ cond (bytes_eq q key)
          (cond b (record { version = version; content = content_code content }) (pair_code was))
          (pairs (number_of q)))
          → ServerFits rack t
          (record sv {
            store = cond b (with_stored sv.store key (with_pair was version content)) sv.store;
          })
          pairs' guards
      by_test true h =
          updated key (with_pair was version content) pairs' guards h
          (kept_at (λ x. guard_code x) guards key (f.keys key).guard_is)
      by_test false h =
          record {
            rack_is = f.rack_is;
            id_is = f.id_is;
            keys = λ q. record {
              pair_is =
                  h q ∙ sym (kept_at (λ x. pair_code x) pairs key (f.keys key).pair_is q)
                  ∙ (f.keys q).pair_is;
              guard_is = (f.keys q).guard_is;
            };
          }
