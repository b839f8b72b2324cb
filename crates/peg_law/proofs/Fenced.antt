-- What the fences of a key leave in a world, since they leave it in the protocol machine.
use Rattle.std.proofs.Common.{◌≡◌, ◌≤◌, ◌⊎◌, inl, inr, ℕ, zero, suc, List, [], ◌∷◌, ◌++◌}
use Rattle.std.proofs.Common.{map}
use Rattle.std.proofs.Common.{Option, Some, None, option_map, refl, sym, ap, ◌∙◌, subst, Contains}
use Rattle.std.proofs.Common.{arith}
use Rattle.std.proofs.lemmas.Grind.{reverse_onto}
use Rattle.std.proofs.lemmas.List.{reverse-reverse}
use Rattle.std.proofs.lemmas.List.Elements.{All-contains, Contains-append_left}
use Rattle.std.specs.Prelude.{reverse}
use Rattle.peg_name.specs.declared.Node.{Node}
use Rattle.peg_name.specs.declared.Node.TheVariants as node
use Rattle.peg_event.specs.declared.answers.Listing.{Listing}
use Rattle.peg_model.specs.Packet as packet
use Rattle.peg_model.specs.Packet.{Packet}
use Rattle.peg_model.specs.Rules.{entry_of}
use Rattle.peg_model.specs.World.{World, AppliedFence, switch_of}
use Rattle.peg_law.specs.Codes.{number_of, content_code, entry_code, node_code, guard_code}
use Rattle.peg_law.specs.Covered.{version_at, home_at}
use Rattle.peg_law.specs.Fenced.{stored_at, Between, NothingBetween, HasBase, AtMostBase}
use Rattle.peg_law.specs.Fenced.{KeyIsFenced, KeysAreFenced}
use Rattle.peg_law.specs.Mirrors.{Mirrors, fence_code}
use Rattle.peg_law.proofs.Codes.{number_apart}
use Rattle.peg_law.proofs.Cores.{entry_is}
use Rattle.peg_law.proofs.Covered.{version_is, at_home, plain_there, current_here, reported_there}
use Rattle.peg_law.proofs.Once.{contains_more}
use Rattle.peg_law.proofs.ServerHanded.{home_is}
use Rattle.peg_protocol.specs.Core as core
use Rattle.peg_protocol.specs.Packet as law
use Rattle.peg_protocol.specs.Machine.{Guard, Applied}
use Rattle.peg_protocol.specs.Law as law_of
use Rattle.peg_protocol.specs.Law.{Law, ActsOnce, FenceLaw, Reported}
use Rattle.peg_protocol.specs.Handover.{HandoverLaw}
use Rattle.peg_protocol.specs.System.{System, ground}

-- ---- lists turned round

last_of : {A : Type 0} (xs : List A) (x : A) → Contains (xs ++ x ∷ []) x
last_of [] x = (0, omega arith, refl)
last_of (y ∷ xs) x = contains_more y x (xs ++ x ∷ []) (last_of xs x)

reversed : {A : Type 0} (xs : List A) (x : A) → Contains xs x → Contains (reverse xs) x
reversed [] x (k, less, e) = absurd (omega (arith, less))
reversed (y ∷ xs) x (zero, less, e) =
    subst (λ l. Contains l x) (sym (reverse_onto xs y []))
    (subst (Contains (reverse xs ++ y ∷ [])) e (last_of (reverse xs) y))
reversed (y ∷ xs) x (suc k, less, e) =
    subst (λ l. Contains l x) (sym (reverse_onto xs y []))
    (Contains-append_left (reverse xs) (y ∷ []) x (reversed xs x (k, omega (arith, less), e)))

coded : (fs : List AppliedFence) (f : AppliedFence) → Contains fs f →
    Contains (map fence_code fs) (fence_code f)
coded [] f (k, less, e) = absurd (omega (arith, less))
coded (g ∷ fs) f (zero, less, e) = (0, omega arith, ap fence_code e)
coded (g ∷ fs) f (suc k, less, e) =
    contains_more (fence_code g) (fence_code f) (map fence_code fs)
    (coded fs f (k, omega (arith, less), e))

told : (fs : List AppliedFence) (x : Applied) → Contains (map fence_code fs) x
    → (f : AppliedFence) × Contains fs f × (fence_code f ≡ x)
told [] x (k, less, e) = absurd (omega (arith, less))
told (g ∷ fs) x (zero, less, e) = (g, (0, omega arith, refl), e)
told (g ∷ fs) x (suc k, less, e) =
    let r = told fs x (k, omega (arith, less), e) in (r.0, contains_more g r.0 fs r.1, r.2)

module _ (keys : List (List ℕ)) (w : World) (s : System) (m : Mirrors keys w s) where
  pub fence_there : (f : AppliedFence) → Contains w.fences f → Contains s.fences (fence_code f)
  fence_there f c =
      subst (λ l. Contains l (fence_code f)) (reverse-reverse s.fences)
      (reversed (reverse s.fences) (fence_code f)
      (subst (λ l. Contains l (fence_code f)) m.fences (coded w.fences f c)))

  fence_here :
      (x : Applied) → Contains s.fences x
      → (f : AppliedFence) × Contains w.fences f × (fence_code f ≡ x)
  fence_here x c =
      told w.fences x (subst (λ l. Contains l x) (sym m.fences) (reversed s.fences x c))

  guard_is : (server : ℕ) (key : List ℕ) →
      s.guards server (number_of key) ≡ guard_code (stored_at w server key)
  guard_is server key = ((m.servers server).keys key).guard_is

  pub home_guard :
      (key : List ℕ)
      → s.guards (s.rack.home (number_of key)) (number_of key)
      ≡ guard_code (stored_at w (home_at w key) key)
  home_guard key =
      ap (λ t. s.guards t (number_of key)) (home_is keys w s m key) ∙ guard_is (home_at w key) key

  between_is : (f : AppliedFence) (u : ℕ) → Between f u → law_of.Between (fence_code f) u
  between_is f u b = b

  nothing :
      (c : core.Core) (key : List ℕ) (f : AppliedFence)
      → law_of.NothingBetween (ground s c) (number_of key) (fence_code f) → NothingBetween w key f
  nothing c key f x =
      record {
        held = λ t b. x.held t
            (subst (law_of.Between (fence_code f)) (sym (version_is keys w s m t key)) b);
        write = λ t client seq u named to_switch content apart sent b.
            x.write t client seq u to_switch (content_code content)
            (λ e. apart (e ∙ home_is keys w s m key))
            (plain_there keys w s m (node.Server t)
            (packet.ToServerWrite client seq u named to_switch key content)
            (law.ToServerWrite client seq u to_switch (number_of key) (content_code content))
            (λ i fit. fit.packet) sent)
            b;
        copy = λ to to_switch server u content sent b.
            x.copy (node_code to) u to_switch (content_code content)
            (plain_there keys w s m to (packet.CopyData to_switch server u key content)
            (law.CopyData u to_switch (number_of key) (content_code content)) (λ i fit. fit.packet)
            sent)
            b;
        reported = λ r item sent e k b.
            x.reported r.server r.version
            (subst (λ j. Reported (ground s c) r.server (number_of j) r.version) k
            (reported_there keys w s m c r item sent e))
            b;
      }

  pub sent_there :
      (key : List ℕ) (to : Node) (to_switch server f : ℕ)
      → Contains w.packets (to, packet.Fence to_switch server f key)
      → Contains s.sent (law.item (node_code to) (law.Fence f to_switch (number_of key)))
  sent_there key to to_switch server f sent =
      plain_there keys w s m to (packet.Fence to_switch server f key)
      (law.Fence f to_switch (number_of key)) (λ i fit. fit.packet) sent

  fenced_key :
      (c : core.Core) (key : List ℕ) (o : Option Listing) → FenceLaw (ground s c) (number_of key)
      → core.entry_of (number_of key) c.entries ≡ option_map (λ x. entry_code (key, x)) o
      → KeyIsFenced w key o
  fenced_key c key o l is =
      record {
        sent = λ to to_switch server f sent.
            by_base o is f
            (l.sent (node_code to) f to_switch (sent_there key to to_switch server f sent));
        most = λ to to_switch server f sent.
            by_most o is f
            (l.most (node_code to) f to_switch (sent_there key to to_switch server f sent));
        ordered = subst (λ (g : Guard). g.old ≤ g.low) (home_guard key) l.low;
        floor =
            (let h = at_home keys w s m key in
            let x = subst
            (λ (g : Guard). g.floor ≤
            (s.held (s.rack.home (number_of key)) (number_of key)).version) (home_guard key)
            l.floor in
            omega (arith, h, x));
        others = λ t apart.
            let x = l.others t (λ e. apart (e ∙ home_is keys w s m key)) in
            let y = subst (λ (g : Guard). law_of.NoFences g) (guard_is t key) x in
            (y.low, y.floor, y.old);
        applied = λ f has k.
            nothing c key f
            (All-contains
            (λ g. g.key ≡ number_of key → law_of.NothingBetween (ground s c) (number_of key) g)
            s.fences (fence_code f) l.applied (fence_there f has) (ap number_of k));
        voided = λ to client seq u server to_switch sent.
            let x =
            l.voided (node_code to) client seq u server to_switch
            (plain_there keys w s m to (packet.Void client seq u server to_switch key)
            (law.Void client seq u server to_switch (number_of key)) (λ i fit. fit.packet) sent) in
            let f = fence_here x.0 x.1 in (
              f.0,
              f.1,
              number_apart f.0.key key (ap (λ (y : Applied). y.key) f.2 ∙ x.2),
              subst (λ (y : Applied). law_of.Between y u) (sym f.2) x.3,
            );
      }
    where
      by_base :
          (o : Option Listing)
          → core.entry_of (number_of key) c.entries ≡ option_map (λ x. entry_code (key, x)) o
          → (f : ℕ)
          → (f ≤ (s.held (s.rack.home (number_of key)) (number_of key)).version)
          ⊎ law_of.HasBase (core.entry_of (number_of key) c.entries) f
          → (f ≤ version_at w (home_at w key) key) ⊎ HasBase o f
      by_base o is f (inl x) = let h = at_home keys w s m key in inl (omega (arith, x, h))
      by_base None is f (inr x) = inr (subst (λ e. law_of.HasBase e f) is x)
      by_base (Some entry) is f (inr x) = inr (subst (λ e. law_of.HasBase e f) is x)

      by_most :
          (o : Option Listing)
          → core.entry_of (number_of key) c.entries ≡ option_map (λ x. entry_code (key, x)) o
          → (f : ℕ) → law_of.AtMostBase (core.entry_of (number_of key) c.entries) f
          → AtMostBase o f
      by_most None is f x = tt
      by_most (Some entry) is f x = subst (λ e. law_of.AtMostBase e f) is x

  pub fenced_here :
      (holder : ℕ) → HandoverLaw s holder → Law (ground s (s.cores holder))
      → ActsOnce (ground s (s.cores holder)) → KeysAreFenced w
  fenced_here holder h l once =
      record {
        holder = holder;
        current = current_here keys w s m holder h;
        keys = λ key.
            fenced_key (s.cores holder) key (entry_of (switch_of w holder).entries key)
            (l.fences (number_of key))
            (ap (core.entry_of (number_of key)) (m.switches holder).core_is.entries_is
            ∙ entry_is key (switch_of w holder).entries);
        voided = λ to client seq u server to_switch key sent t other e.
            once.held (node_code to) client seq u server to_switch (number_of key)
            (plain_there keys w s m to (packet.Void client seq u server to_switch key)
            (law.Void client seq u server to_switch (number_of key)) (λ i fit. fit.packet) sent)
            t (number_of other) (version_is keys w s m t other ∙ e);
      }
