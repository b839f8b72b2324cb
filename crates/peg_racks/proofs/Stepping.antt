-- What several racks make of a line, as their meaning has it.
use Rattle.std.proofs.Common.{◌≡◌, ◌<◌, ◌≤◌, ◌+◌, ◌-◌, ◌||◌, ◌⊎◌, inl, inr, ℕ, zero, suc, Bool}
use Rattle.std.proofs.Common.{true, false, Option, Some, None, List, [], ◌∷◌, ◌++◌, length, map}
use Rattle.std.proofs.Common.{slice_get, slice_set, refl, sym, ap, ◌∙◌, subst, arith, codes, decimal}
use Rattle.std.specs.Prelude.{◌==◌, IfSome, option_map, if◌then◌else◌, nat_le, nat_lt}
use Rattle.std.proofs.lemmas.Bool.Decides.{nat_tests}
use Rattle.std.proofs.lemmas.List.{map-append}
use Rattle.std.proofs.lemmas.Option.{slice_get-map, slice_get_within}
use Rattle.peg_name.specs.Name.{Rack}
use Rattle.peg_event.specs.declared.Event.{Event}
use Rattle.peg_event.specs.declared.Line.{Line}
use Rattle.peg_model.specs.World.{World, step}
use Rattle.peg_model.specs.Schedule.{IsRackLine, EventInRack}
use Rattle.peg_meaning.specs.Session as session
use Rattle.peg_meaning.specs.Session.{Answer, Goes, saying, IsOnly}
use Rattle.peg_meaning.specs.Racks.{RacksEvent, Routed, Within, RacksEntry, Counted, Named, Happens}
use Rattle.peg_meaning.specs.Racks.{End, RacksWord, Starting, Running, Finished, Division}
use Rattle.peg_meaning.specs.Racks.{IsLineOf, IsDivisionLine, IsRacksWordLine, racks_step, is_full}
use Rattle.peg_meaning.specs.Racks.{event_in, line_of, at_place, racks_on, division_on}
use Rattle.peg_meaning.specs.Racks.{happens, plays_racks, tails_text}
use Rattle.peg_world.specs.Running as running
use Rattle.peg_world.specs.Running.{started, is_past}
use Rattle.peg_world.specs.Sound.{Each}
use Rattle.peg_world.proofs.Each.{each_set, set_there}
use Rattle.peg_session.specs.Took.{Took, TookLine}
use Rattle.peg_session.specs.declared.Stepped.{Stepped}
use Rattle.peg_session.specs.declared.Stepped.TheVariants as stepped_as
use Rattle.peg_text.specs.declared.dividing.RacksLine as said_line
use Rattle.peg_text.specs.Divides.{entry_in}
use Rattle.peg_racks.specs.Worlds.{config_of, world_of, worlds_of, taking, begun, line_in}
use Rattle.peg_racks.specs.Worlds.{Steps}
use Rattle.peg_racks.specs.Playing.{division, word_at, GoesOn, IsTaken}
use Rattle.peg_racks.proofs.Steps.{worlds_count, world_at, at_world, get_pushed}

-- ---- an event

-- what came of it, from what the racks came to
abbrev come :
    ℕ → ℕ → ℕ → List World × Option Line → ℕ → Answer RacksWord
come unnamed place lines now rack =
    if is_full (slice_get now.0 rack) then session.Past
    else Goes (saying
    (Running (record { worlds = now.0; unnamed = unnamed; place = place; lines = lines }))
    (line_of now.1 place rack))

full_at :
    (ws : List World) (i : ℕ) (w : World) → slice_get ws i ≡ Some w
    → is_full (slice_get ws i) ≡ nat_lt 200000 (length w.packets)
full_at ws i w at = ap is_full at

-- the one limit that is left
past_by :
    (over : Bool) (events packets : ℕ) → over ≡ false → events < 1000000
    → (over || (nat_le 1000000 events || nat_lt 200000 packets)) ≡ nat_lt 200000 packets
past_by over events packets on few =
    ap (λ b. b || (nat_le 1000000 events || nat_lt 200000 packets)) on
    ∙ ap (λ b. b || nat_lt 200000 packets) (not_yet events few)
  where
    not_yet : (n : ℕ) → n < 1000000 → nat_le 1000000 n ≡ false
    not_yet n small = grind (arith, nat_tests)

module _ (rs : List running.Running) (unnamed place lines : ℕ) (e : RacksEvent) where
  abbrev now : List World × Option Line
  now = racks_step (worlds_of rs) (place + 1) e

  happens_is :
      (lines == 1000000) ≡ false
      → division_on (division rs unnamed place lines) (Happens e)
      ≡ come unnamed (place + 1) (lines + 1) now (taking rs e)
  happens_is more =
      ap (λ (b : Bool). if b then session.Past else happens (division rs unnamed place lines) e) more
      ∙ ap (come unnamed (place + 1) (lines + 1) now) (worlds_count rs e)

  pub step_on :
      (o : Bool) (rs' : List running.Running) (rack : ℕ) (l : Line) → o ≡ false
      → (lines == 1000000) ≡ false → rack ≡ taking rs e
      → racks_step (worlds_of rs) (place + 1) e ≡ (worlds_of rs', line_in rs' (taking rs e))
      → is_full (slice_get (worlds_of rs') (taking rs e)) ≡ false → Some l ≡ line_in rs' rack
      → racks_on (word_at o (division rs unnamed place lines)) (session.Entry (Happens e))
      ≡ Goes (saying (word_at o (division rs' unnamed (place + 1) (lines + 1)))
      (line_of (Some l) (place + 1) rack))
  step_on o rs' rack l off more is_rack did few says =
      let d' = division rs' unnamed (place + 1) (lines + 1) in
      let main : division_on (division rs unnamed place lines) (Happens e)
      ≡ Goes (saying (Running d') (line_of (Some l) (place + 1) rack)) =
      happens_is more
      ∙ ap (λ (r : List World × Option Line). come unnamed (place + 1) (lines + 1) r (taking rs e)) did
      ∙ ap (λ (b : Bool). if b then session.Past
      else Goes (saying (Running d') (line_of (line_in rs' (taking rs e)) (place + 1) (taking rs e))))
      few
      ∙ ap (λ k. Goes (saying (Running d') (line_of (line_in rs' k) (place + 1) k))) (sym is_rack)
      ∙ ap (λ (m : Option Line). Goes (saying (Running d') (line_of m (place + 1) rack))) (sym says) in
      subst
      (λ (b : Bool). racks_on (word_at b (division rs unnamed place lines))
      (session.Entry (Happens e))
      ≡ Goes (saying (word_at b d') (line_of (Some l) (place + 1) rack))) (sym off) main

  pub past_on :
      (o : Bool) (r : running.Running) → o ≡ false → (lines == 1000000) ≡ false
      → slice_get rs (taking rs e) ≡ Some r → GoesOn place lines r → lines ≤ 1000000
      → is_past r (place + 1) (event_in e) ≡ true
      → racks_on (word_at o (division rs unnamed place lines)) (session.Entry (Happens e))
      ≡ session.Past
  past_on o r off more at on few past =
      let i = taking rs e in
      let w = (step r.world (place + 1) (event_in e)).0 in
      let small : r.events < 1000000 = fewer r.events lines on.few few more in
      let full : nat_lt 200000 (length w.packets) ≡ true =
      sym (past_by r.is_over r.events (length w.packets) on.goes_on small) ∙ past in
      let there : slice_get (slice_set (worlds_of rs) i w) i ≡ Some w =
      set_there (worlds_of rs) i w
      (slice_get_within (worlds_of rs) i r.world (world_at rs i r at)) in
      let main : division_on (division rs unnamed place lines) (Happens e) ≡ session.Past =
      happens_is more
      ∙ ap (λ (n : List World × Option Line). come unnamed (place + 1) (lines + 1) n i)
      (at_world rs (place + 1) e r at)
      ∙ ap (λ (b : Bool). if b then session.Past
      else Goes (saying
      (Running (record {
        worlds = slice_set (worlds_of rs) i w;
        unnamed = unnamed;
        place = place + 1;
        lines = lines + 1;
      }))
      (line_of (Some (step r.world (place + 1) (event_in e)).1) (place + 1) i)))
      (full_at (slice_set (worlds_of rs) i w) i w there ∙ full) in
      subst
      (λ (b : Bool). racks_on (word_at b (division rs unnamed place lines))
      (session.Entry (Happens e)) ≡ session.Past) (sym off) main
    where
      fewer : (n lines : ℕ) → n ≤ lines → lines ≤ 1000000 → (lines == 1000000) ≡ false → n < 1000000
      fewer n lines below most more = grind (arith, nat_tests)

  pub spent_on :
      (o : Bool) → o ≡ false → (lines == 1000000) ≡ true
      → racks_on (word_at o (division rs unnamed place lines)) (session.Entry (Happens e))
      ≡ session.Past
  spent_on o off most =
      subst
      (λ (b : Bool). racks_on (word_at b (division rs unnamed place lines))
      (session.Entry (Happens e)) ≡ session.Past) (sym off)
      (ap (λ (b : Bool). if b then session.Past
      else happens (division rs unnamed place lines) e) most)

pub not_spent : (n : ℕ) → (n ≡ 1000000 → ⊥) → (n == 1000000) ≡ false
not_spent n more = by_test (n == 1000000) refl
  where
    is_equal : (n : ℕ) → (n == 1000000) ≡ true → n ≡ 1000000
    is_equal n e = grind (arith, nat_tests)

    by_test : (b : Bool) → (n == 1000000) ≡ b → (n == 1000000) ≡ false
    by_test true is = absurd (more (is_equal n is))
    by_test false is = is

pub fewer_lines : (n : ℕ) → n ≤ 1000000 → (n == 1000000) ≡ false → n < 1000000
fewer_lines n most more = grind (arith, nat_tests)

-- a step within the limits leaves a world that isn't full
pub not_full :
    (rs rs' : List running.Running) (place lines : ℕ) (e : RacksEvent)
    → Each (λ i. GoesOn place lines) rs → lines < 1000000 → Steps rs rs' (place + 1) e
    → is_full (slice_get (worlds_of rs') (taking rs e)) ≡ false
not_full rs rs' place lines e each few made =
    let i = taking rs e in
    let r = made.before in
    let a = made.after in
    let on = each i r made.at in
    let there : slice_get rs' i ≡ Some a =
    ap (λ (xs : List running.Running). slice_get xs i) made.is
    ∙ set_there rs i a (slice_get_within rs i r made.at) in
    full_at (worlds_of rs') i a.world (world_at rs' i a there)
    ∙ ap (λ (b : running.Running). nat_lt 200000 (length b.world.packets)) made.did
    ∙ sym (past_by r.is_over r.events
    (length (step r.world (place + 1) (event_in e)).0.packets) on.goes_on
    (omega (arith, on.few, few)))
    ∙ made.within

-- and each world goes on
pub each_goes_on :
    (rs rs' : List running.Running) (place lines : ℕ) (e : RacksEvent)
    → Each (λ i. GoesOn place lines) rs → Steps rs rs' (place + 1) e
    → Each (λ i. GoesOn (place + 1) (lines + 1)) rs'
each_goes_on rs rs' place lines e each made =
    let on = each (taking rs e) made.before made.at in
    subst (λ (xs : List running.Running). Each (λ i. GoesOn (place + 1) (lines + 1)) xs)
    (sym made.is)
    (each_set (λ i. GoesOn place lines) (λ i. GoesOn (place + 1) (lines + 1)) rs (taking rs e)
    made.after each
    (record {
      goes_on = ap (λ (b : running.Running). b.is_over) made.did;
      before = omega (arith, made.placed);
      few = omega (arith, on.few, ap (λ (b : running.Running). b.events) made.did);
    })
    (λ j x other holds. record {
      goes_on = holds.goes_on;
      before = omega (arith, holds.before);
      few = omega (arith, holds.few);
    }))

-- ---- a rack line

pub named_on :
    (o : Bool) (rs rs' : List running.Running) (unnamed place lines : ℕ) (rack : Rack)
    (keys : List (List ℕ)) → o ≡ false → rs' ≡ rs ++ begun (rack, keys) ∷ []
    → racks_on (word_at o (division rs unnamed place lines)) (session.Entry (Named rack keys))
    ≡ Goes (saying (word_at o (division rs' (unnamed - 1) (place + 1) lines))
    (at_place (place + 1) (codes "rack")))
named_on o rs rs' unnamed place lines rack keys off is =
    let W : List World → Answer RacksWord =
    λ ws. Goes (saying
    (Running (record { worlds = ws; unnamed = unnamed - 1; place = place + 1; lines = lines }))
    (at_place (place + 1) (codes "rack"))) in
    let main : division_on (division rs unnamed place lines) (Named rack keys)
    ≡ W (worlds_of rs') =
    ap W (sym (ap worlds_of is ∙ map-append world_of rs (begun (rack, keys) ∷ []))) in
    subst
    (λ (b : Bool). racks_on (word_at b (division rs unnamed place lines))
    (session.Entry (Named rack keys))
    ≡ Goes (saying (word_at b (division rs' (unnamed - 1) (place + 1) lines))
    (at_place (place + 1) (codes "rack")))) (sym off) main

pub each_with_new :
    (rs rs' : List running.Running) (place lines : ℕ) (new : Rack × List (List ℕ))
    → rs' ≡ rs ++ begun new ∷ [] → 1 ≤ place → Each (λ i. GoesOn place lines) rs
    → Each (λ i. GoesOn (place + 1) lines) rs'
each_with_new rs rs' place lines new is some each i r at =
    by_place (get_pushed rs (begun new) r i
    (sym (ap (λ (xs : List running.Running). slice_get xs i) is) ∙ at))
  where
    by_place :
        (slice_get rs i ≡ Some r) ⊎ ((i ≡ length rs) × (begun new ≡ r))
        → GoesOn (place + 1) lines r
    by_place (inl old) =
        let on = each i r old in
        record {
          goes_on = on.goes_on;
          before = omega (arith, on.before);
          few = on.few;
        }
    by_place (inr last) =
        subst (λ (b : running.Running). GoesOn (place + 1) lines b) last.1
        (record { goes_on = refl; before = omega (arith, some); few = omega arith })

-- ---- the line end

pub end_on :
    (o : Bool) (rs : List running.Running) (unnamed place lines : ℕ) → o ≡ false
    → racks_on (word_at o (division rs unnamed place lines)) (session.Entry End)
    ≡ Goes (saying (Finished (division rs unnamed place lines))
    (at_place (place + 1) (codes "end") ++ tails_text 0 (worlds_of rs)))
end_on o rs unnamed place lines off =
    subst
    (λ (b : Bool). racks_on (word_at b (division rs unnamed place lines)) (session.Entry End)
    ≡ Goes (saying (Finished (division rs unnamed place lines))
    (at_place (place + 1) (codes "end") ++ tails_text 0 (worlds_of rs)))) (sym off) refl

-- ---- a line and what it says

pub took_line :
    (s : RacksWord) (line : List ℕ) (e : RacksEntry) (s' : RacksWord) (page page' : List ℕ)
    (held held' : Option (List ℕ)) (st : Stepped) → IsOnly plays_racks s line e
    → Took plays_racks s (session.Entry e) st s' [] [] page page' held held'
    → TookLine plays_racks s line st s' [] [] page page' held held'
took_line s line e s' page page' held held' stepped_as.Goes only took = (e, only, took)
took_line s line e s' page page' held held' stepped_as.Refused only took = absurd took
took_line s line e s' page page' held held' stepped_as.Past only took = (e, only, took)
took_line s line e s' page page' held held' stepped_as.OutOfMemory only took = took
took_line s line e s' page page' held held' stepped_as.Unwritten only took = (e, only, took)

racks_are : (rs : List running.Running) → map (λ (w : World). w.rack) (worlds_of rs) ≡ map config_of rs
racks_are [] = refl
racks_are (r ∷ rs) = ap (λ (cs : List Rack). r.world.rack ∷ cs) (racks_are rs)

module _ (o : Bool) (rs : List running.Running) (unnamed place lines : ℕ) (off : o ≡ false)
    (line : List ℕ) where
  abbrev d : Division
  d = division rs unnamed place lines

  abbrev Reads : RacksEntry → Type 0
  Reads e = IsRacksWordLine (word_at o d) line e

  module _ (named : unnamed ≡ 0) (res : Option said_line.RacksLine)
      (complete : (d : Division) (e : RacksEntry)
      → map (λ (w : World). w.rack) d.worlds ≡ map config_of rs → IsDivisionLine 0 d line e
      → option_map entry_in res ≡ Some e) where
    reads_at : (e : RacksEntry) → Reads e → IsDivisionLine 0 d line e
    reads_at e is =
        subst (λ n. IsDivisionLine n d line e) named
        (subst (λ (b : Bool). IsRacksWordLine (word_at b d) line e) off is)

    pub no_line : res ≡ None → (e : RacksEntry) → Reads e → ⊥
    no_line none e is =
        let both : None ≡ Some e =
        sym (ap (option_map entry_in) none) ∙ complete d e (racks_are rs) (reads_at e is) in
        cc both

    pub only_line :
        (sound : (d : Division) → map (λ (w : World). w.rack) d.worlds ≡ map config_of rs
        → IfSome res (λ l. IsDivisionLine 0 d line (entry_in l)))
        → (l : said_line.RacksLine) → res ≡ Some l
        → IsOnly plays_racks (word_at o d) line (entry_in l)
    only_line sound l is =
        record {
          is =
              subst (λ (b : Bool). IsRacksWordLine (word_at b d) line (entry_in l)) (sym off)
              (subst (λ n. IsDivisionLine n d line (entry_in l)) (sym named)
              (subst (λ (r : Option said_line.RacksLine). IfSome r
              (λ k. IsDivisionLine 0 d line (entry_in k))) is (sound d (racks_are rs))));
          only = λ other reads.
              let both : Some (entry_in l) ≡ Some other =
              sym (ap (option_map entry_in) is) ∙ complete d other (racks_are rs)
              (reads_at other reads) in
              sym (cc both);
        }

    pub taken_line :
        (sound : (d : Division) → map (λ (w : World). w.rack) d.worlds ≡ map config_of rs
        → IfSome res (λ l. IsDivisionLine 0 d line (entry_in l)))
        → (l : said_line.RacksLine) (e : RacksEvent) → res ≡ Some l → entry_in l ≡ Happens e
        → IsTaken rs e
    taken_line sound l e is says =
        by_event e
        (subst (λ (x : RacksEntry). IsDivisionLine 0 d line x) says
        (subst (λ (r : Option said_line.RacksLine). IfSome r
        (λ k. IsDivisionLine 0 d line (entry_in k))) is (sound d (racks_are rs))))
      where
        of_rack :
            (e : RacksEvent) (r : Option running.Running) (whole rest : List ℕ) (k : Event)
            → slice_get rs (taking rs e) ≡ r → event_in e ≡ k
            → IsLineOf (option_map world_of r) whole rest k → IsTaken rs e
        of_rack e None whole rest k at event here = absurd here
        of_rack e (Some r) whole rest k at event here =
            record {
              taker = r;
              at = at;
              in_rack = subst (λ (j : Event). EventInRack r.world.rack j) (sym event) here.0.in_rack;
            }

        by_event : (e : RacksEvent) → IsDivisionLine 0 d line (Happens e) → IsTaken rs e
        by_event (Routed k) here =
            of_rack (Routed k) (slice_get rs (taking rs (Routed k))) line line k refl refl
            (subst (λ (w : Option World). IsLineOf w line line k)
            (slice_get-map world_of rs (taking rs (Routed k)))
            (subst (λ i. IsLineOf (slice_get (worlds_of rs) i) line line k)
            (worlds_count rs (Routed k)) here.1))
        by_event (Within rack k) here =
            of_rack (Within rack k) (slice_get rs rack) line here.1.0 k refl refl
            (subst (λ (w : Option World). IsLineOf w line here.1.0 k)
            (slice_get-map world_of rs rack) here.1.2)

  -- a rack line
  module _ (some : 1 ≤ unnamed) (res : Option (Rack × List (List ℕ)))
      (complete : (r : Rack) (k : List (List ℕ)) → IsRackLine line r k → res ≡ Some (r, k)) where
    named_line :
        (n : ℕ) (e : RacksEntry) → 1 ≤ n → IsDivisionLine n d line e
        → (r : Rack) × (k : List (List ℕ)) × (e ≡ Named r k) × IsRackLine line r k
    named_line zero e some is = absurd (omega (arith, some))
    named_line (suc n) (Counted racks) some is = absurd is
    named_line (suc n) (Named r k) some is = (r, k, refl, is)
    named_line (suc n) (Happens e) some is = absurd is
    named_line (suc n) End some is = absurd is

    names : (e : RacksEntry) → Reads e
        → (r : Rack) × (k : List (List ℕ)) × (e ≡ Named r k) × IsRackLine line r k
    names e is =
        named_line unnamed e some (subst (λ (b : Bool). IsRacksWordLine (word_at b d) line e) off is)

    pub no_rack : res ≡ None → (e : RacksEntry) → Reads e → ⊥
    no_rack none e is =
        let it = names e is in
        let both : None ≡ Some (it.0, it.1) = sym none ∙ complete it.0 it.1 it.3 in
        cc both

    is_named :
        (n : ℕ) (rack : Rack) (keys : List (List ℕ)) → 1 ≤ n → IsRackLine line rack keys
        → IsDivisionLine n d line (Named rack keys)
    is_named zero rack keys some is = absurd (omega (arith, some))
    is_named (suc n) rack keys some is = is

    pub only_rack :
        (rack : Rack) (keys : List (List ℕ)) → res ≡ Some (rack, keys) → IsRackLine line rack keys
        → IsOnly plays_racks (word_at o d) line (Named rack keys)
    only_rack rack keys is here =
        record {
          is =
              subst (λ (b : Bool). IsRacksWordLine (word_at b d) line (Named rack keys)) (sym off)
              (is_named unnamed rack keys some here);
          only = λ other reads.
              let it = names other reads in
              let same : Some (it.0, it.1) ≡ Some (rack, keys) =
              sym (complete it.0 it.1 it.3) ∙ is in
              let pair : (it.0, it.1) ≡ (rack, keys) = cc same in
              it.2 ∙ ap (λ (p : Rack × List (List ℕ)). Named p.0 p.1) pair;
        }

-- ---- the line that counts the racks

pub only_count :
    (res : Option ℕ) (line : List ℕ) (racks : ℕ) → res ≡ Some racks
    → ((n : ℕ) → IsRacksWordLine Starting line (Counted n) → res ≡ Some n)
    → IsRacksWordLine Starting line (Counted racks)
    → IsOnly plays_racks Starting line (Counted racks)
only_count res line racks is complete sound = record { is = sound; only = only }
  where
    only : (other : RacksEntry) → IsRacksWordLine Starting line other → other ≡ Counted racks
    only (Counted n) here =
        let same : Some n ≡ Some racks = sym (complete n here) ∙ is in
        ap (λ k. Counted k) (cc same)
    only (Named r k) here = absurd here
    only (Happens e) here = absurd here
    only End here = absurd here

pub no_count :
    (res : Option ℕ) (line : List ℕ) → res ≡ None
    → ((n : ℕ) → IsRacksWordLine Starting line (Counted n) → res ≡ Some n)
    → (e : RacksEntry) → IsRacksWordLine Starting line e → ⊥
no_count res line is complete (Counted n) here = cc (is, complete n here)
no_count res line is complete (Named r k) here = here
no_count res line is complete (Happens e) here = here
no_count res line is complete End here = here

pub counted_on :
    (racks : ℕ) (rs : List running.Running) → rs ≡ []
    → racks_on Starting (session.Entry (Counted racks))
    ≡ Goes (saying (word_at false (division rs racks 1 0))
    (at_place 1 (codes "racks " ++ decimal racks)))
counted_on racks rs none =
    ap (λ (xs : List running.Running). Goes (saying (word_at false (division xs racks 1 0))
    (at_place 1 (codes "racks " ++ decimal racks)))) (sym none)
