-- A command takes exactly so many words.
use Rattle.std.proofs.Common.{◌≡◌, ◌≢◌, ◌∙◌, ℕ, Bool, true, false, List, [], ◌∷◌, length, refl, sym}
use Rattle.std.proofs.Common.{subst, codes, Some, None}
use Rattle.std.specs.Prelude.{option_and_then}
use Rattle.std.specs.Str.{bytes_eq}
use Rattle.std.proofs.lemmas.Slice.Eq.{bytes_eq-Decides}
use Rattle.peg_meaning.specs.Commands as book
use Rattle.peg_meaning.specs.Commands.{plain_job, soak_job, switch_job, server_job, control_job}
use Rattle.peg_meaning.specs.Commands.{ask_job, rack_job, balanced_job}
use Rattle.peg_words.specs.Jobs.{job_of, given, count_of}

plain_not : (j : book.Job) (words : List (List ℕ)) → length words ≢ 0 → plain_job j words ≡ None
plain_not j [] other = absurd (other refl)
plain_not j (a ∷ words) other = refl

soak_not : (words : List (List ℕ)) → length words ≢ 2 → soak_job words ≡ None
soak_not [] other = refl
soak_not (a ∷ []) other = refl
soak_not (a ∷ b ∷ []) other = absurd (other refl)
soak_not (a ∷ b ∷ c ∷ words) other = refl

switch_not : (words : List (List ℕ)) → length words ≢ 4 → switch_job words ≡ None
switch_not [] other = refl
switch_not (a ∷ []) other = refl
switch_not (a ∷ b ∷ []) other = refl
switch_not (a ∷ b ∷ c ∷ []) other = refl
switch_not (a ∷ b ∷ c ∷ d ∷ []) other = absurd (other refl)
switch_not (a ∷ b ∷ c ∷ d ∷ e ∷ words) other = refl

server_not : (words : List (List ℕ)) → length words ≢ 4 → server_job words ≡ None
server_not [] other = refl
server_not (a ∷ []) other = refl
server_not (a ∷ b ∷ []) other = refl
server_not (a ∷ b ∷ c ∷ []) other = refl
server_not (a ∷ b ∷ c ∷ d ∷ []) other = absurd (other refl)
server_not (a ∷ b ∷ c ∷ d ∷ e ∷ words) other = refl

control_not : (words : List (List ℕ)) → length words ≢ 4 → control_job words ≡ None
control_not [] other = refl
control_not (a ∷ []) other = refl
control_not (a ∷ b ∷ []) other = refl
control_not (a ∷ b ∷ c ∷ []) other = refl
control_not (a ∷ b ∷ c ∷ d ∷ []) other = absurd (other refl)
control_not (a ∷ b ∷ c ∷ d ∷ e ∷ words) other = refl

ask_not : (words : List (List ℕ)) → length words ≢ 6 → ask_job words ≡ None
ask_not [] other = refl
ask_not (a ∷ []) other = refl
ask_not (a ∷ b ∷ []) other = refl
ask_not (a ∷ b ∷ c ∷ []) other = refl
ask_not (a ∷ b ∷ c ∷ d ∷ []) other = refl
ask_not (a ∷ b ∷ c ∷ d ∷ e ∷ []) other = refl
ask_not (a ∷ b ∷ c ∷ d ∷ e ∷ f ∷ []) other = absurd (other refl)
ask_not (a ∷ b ∷ c ∷ d ∷ e ∷ f ∷ g ∷ words) other = refl

rack_not : (words : List (List ℕ)) → length words ≢ 1 → rack_job words ≡ None
rack_not [] other = refl
rack_not (a ∷ []) other = absurd (other refl)
rack_not (a ∷ b ∷ words) other = refl

balanced_not : (words : List (List ℕ)) → length words ≢ 5 → balanced_job words ≡ None
balanced_not [] other = refl
balanced_not (a ∷ []) other = refl
balanced_not (a ∷ b ∷ []) other = refl
balanced_not (a ∷ b ∷ c ∷ []) other = refl
balanced_not (a ∷ b ∷ c ∷ d ∷ []) other = refl
balanced_not (a ∷ b ∷ c ∷ d ∷ e ∷ []) other = absurd (other refl)
balanced_not (a ∷ b ∷ c ∷ d ∷ e ∷ f ∷ words) other = refl

-- ---- names

pub data Named : List ℕ → Type 0 where
  replay : Named (codes "replay")
  check : Named (codes "check")
  soak : Named (codes "soak")
  switch : Named (codes "switch")
  server : Named (codes "server")
  control : Named (codes "control")
  ask : Named (codes "ask")
  whole_rack : Named (codes "rack")
  racks : Named (codes "racks")
  balanced : Named (codes "balanced")
  other : (name : List ℕ) → count_of name ≡ None → Named name

choose : {P : Type 0} (b : Bool) → (b ≡ true → P) → (b ≡ false → P) → P
choose true found missed = found refl
choose false found missed = missed refl

module _ (name : List ℕ) where
  as_is : (text : List ℕ) → Named text → bytes_eq name text ≡ true → Named name
  as_is text found same =
      subst (λ (n : List ℕ). Named n) (sym ((bytes_eq-Decides name text).0 same)) found

  is_or : (text : List ℕ) → Named text → (bytes_eq name text ≡ false → Named name) → Named name
  is_or text found unlike = choose (bytes_eq name text) (as_is text found) unlike

  pub named : Named name
  named =
      is_or (codes "replay") replay
      (λ a. is_or (codes "check") check
      (λ b. is_or (codes "soak") soak
      (λ c. is_or (codes "switch") switch
      (λ d. is_or (codes "server") server
      (λ e. is_or (codes "control") control
      (λ f. is_or (codes "ask") ask
      (λ g. is_or (codes "rack") whole_rack
      (λ h. is_or (codes "racks") racks
      (λ i. is_or (codes "balanced") balanced
      (λ j. other name (rw (a, b, c, d, e, f, g, h, i, j) refl)))))))))))

pub not_here : (name : List ℕ) (words : List (List ℕ)) → count_of name ≡ None
    → job_of (name ∷ words) ≡ None
not_here name words is = rw is refl

counted_by : (name : List ℕ) (words : List (List ℕ)) (n : ℕ) → Named name
    → count_of name ≡ Some n → length words ≢ n → job_of (name ∷ words) ≡ None
counted_by _ words n replay is more =
    let count : 0 ≡ n = cc in
    rw (plain_not book.Replay words (λ e. more (e ∙ count))) refl
counted_by _ words n check is more =
    let count : 0 ≡ n = cc in
    rw (plain_not book.Check words (λ e. more (e ∙ count))) refl
counted_by _ words n soak is more =
    let count : 2 ≡ n = cc in
    rw (soak_not words (λ e. more (e ∙ count))) refl
counted_by _ words n switch is more =
    let count : 4 ≡ n = cc in
    rw (switch_not words (λ e. more (e ∙ count))) refl
counted_by _ words n server is more =
    let count : 4 ≡ n = cc in
    rw (server_not words (λ e. more (e ∙ count))) refl
counted_by _ words n control is more =
    let count : 4 ≡ n = cc in
    rw (control_not words (λ e. more (e ∙ count))) refl
counted_by _ words n ask is more =
    let count : 6 ≡ n = cc in
    rw (ask_not words (λ e. more (e ∙ count))) refl
counted_by _ words n whole_rack is more =
    let count : 1 ≡ n = cc in
    rw (rack_not words (λ e. more (e ∙ count))) refl
counted_by _ words n racks is more =
    let count : 0 ≡ n = cc in
    rw (plain_not book.Racks words (λ e. more (e ∙ count))) refl
counted_by _ words n balanced is more =
    let count : 5 ≡ n = cc in
    rw (balanced_not words (λ e. more (e ∙ count))) refl
counted_by _ words n (other name unlike) is more = not_here name words unlike

-- another count of words is no command
pub counted : (name : List ℕ) (words : List (List ℕ)) (n : ℕ) → count_of name ≡ Some n
    → length words ≢ n → job_of (name ∷ words) ≡ None
counted name words n is more = counted_by name words n (named name) is more

-- ---- another count of words, read

pub soak_unread : (words : List (List ℕ)) → length words ≢ 2
    → None ≡ option_and_then given (soak_job words)
soak_unread words more = rw (soak_not words more) refl

pub switch_unread : (words : List (List ℕ)) → length words ≢ 4
    → None ≡ option_and_then given (switch_job words)
switch_unread words more = rw (switch_not words more) refl

pub server_unread : (words : List (List ℕ)) → length words ≢ 4
    → None ≡ option_and_then given (server_job words)
server_unread words more = rw (server_not words more) refl

pub control_unread : (words : List (List ℕ)) → length words ≢ 4
    → None ≡ option_and_then given (control_job words)
control_unread words more = rw (control_not words more) refl

pub ask_unread : (words : List (List ℕ)) → length words ≢ 6
    → None ≡ option_and_then given (ask_job words)
ask_unread words more = rw (ask_not words more) refl

pub rack_unread : (words : List (List ℕ)) → length words ≢ 1
    → None ≡ option_and_then given (rack_job words)
rack_unread words more = rw (rack_not words more) refl

pub balanced_unread : (words : List (List ℕ)) → length words ≢ 5
    → None ≡ option_and_then given (balanced_job words)
balanced_unread words more = rw (balanced_not words more) refl
