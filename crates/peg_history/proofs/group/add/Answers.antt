use Rattle.std.proofs.Common.{◌≡◌, ◌++◌, ◌∙◌, ap, sym, arith, map, Some, None, List, ℕ}
use Rattle.std.proofs.lemmas.List.{length-map}
use Rattle.std.specs.List.{position}
use Rattle.std.specs.Option.{option_to_list}
use Rattle.std.specs.Str.{bytes_eq}
use Rattle.peg_history.specs.declared.Entry.{Entry}
use Rattle.peg_history.specs.Groups.{group_of, index_in}
use Rattle.peg_history.proofs.Indexed.{index_within, added-index, added-none, keys_found}
use Rattle.peg_history.proofs.Indexed.{keys_extended, IsIndex-push, map-pushed}
use Rattle.peg_history.proofs.group.add.Goals as goal

pub extend-requires : goal.extend-requires
extend-requires c =
    let key = c.args.key.now in
    let groups : List (List ℕ × List Entry) = map group_of c.args.groups.now.items in
    let found : index_in key groups ≡ Some c.in-Some.index =
    sym (keys_found key groups) ∙ ap (position (bytes_eq key)) (sym c.requires)
    ∙ sym c.place_of.ensures ∙ c.in-Some.is in
    omega (
      arith,
      length-map c.args.groups.now.items group_of,
      index_within key groups c.in-Some.index found,
    )

pub returns-in-Some-clause-groups : goal.returns-in-Some-clause-groups
returns-in-Some-clause-groups c =
    let key = c.args.key.now in
    let groups : List (List ℕ × List Entry) = map group_of c.args.groups.now.items in
    let found : index_in key groups ≡ Some c.in-Some.index =
    sym (keys_found key groups) ∙ ap (position (bytes_eq key)) (sym c.requires)
    ∙ sym c.place_of.ensures ∙ c.in-Some.is in
    c.in_ok-extend.ensures ∙ sym (added-index key groups c.in-Some.index c.args.entry found)

pub returns-in-Some-clause-index : goal.returns-in-Some-clause-index
returns-in-Some-clause-index c =
    let groups : List (List ℕ × List Entry) = map group_of c.args.groups.now.items in
    c.requires ∙ sym (keys_extended groups c.in-Some.index c.args.entry)
    ∙ ap (λ (gs : List (List ℕ × List Entry)). map (λ g. g.0) gs) (sym c.in_ok-extend.ensures)

pub returns-clause-groups : goal.returns-clause-groups
returns-clause-groups c =
    let key = c.args.key.now in
    let groups : List (List ℕ × List Entry) = map group_of c.args.groups.now.items in
    let none : index_in key groups ≡ None =
    sym (keys_found key groups) ∙ ap (position (bytes_eq key)) (sym c.requires)
    ∙ sym c.place_of.ensures ∙ c.in_default.is in
    let entries : c.keep.new.entries.items ≡ option_to_list c.args.entry =
    c.in_ok-keep.ensures
    ∙ ap (λ (es : List Entry). es ++ option_to_list c.args.entry) c.new-entries.ensures.items in
    map-pushed c.args.groups.now.items c.push.new.self.items
    (record { key = key; entries = c.keep.new.entries }) key c.args.entry
    c.in_ok-push.ensures.items (λ i. (key, entries i))
    ∙ sym (added-none key groups c.args.entry none)

pub returns-clause-index : goal.returns-clause-index
returns-clause-index c =
    let key = c.args.key.now in
    let groups : List (List ℕ × List Entry) = map group_of c.args.groups.now.items in
    let none : index_in key groups ≡ None =
    sym (keys_found key groups) ∙ ap (position (bytes_eq key)) (sym c.requires)
    ∙ sym c.place_of.ensures ∙ c.in_default.is in
    let entries : c.keep.new.entries.items ≡ option_to_list c.args.entry =
    c.in_ok-keep.ensures
    ∙ ap (λ (es : List Entry). es ++ option_to_list c.args.entry) c.new-entries.ensures.items in
    let pushed = map-pushed c.args.groups.now.items c.push.new.self.items
    (record { key = key; entries = c.keep.new.entries }) key c.args.entry
    c.in_ok-push.ensures.items (λ i. (key, entries i)) in
    IsIndex-push c.args.known.now.keys c.insert.new.self.keys key (option_to_list c.args.entry)
    groups c.requires none c.in_ok-insert.ensures.keys
    ∙ ap (λ (gs : List (List ℕ × List Entry)). map (λ g. g.0) gs) (sym pushed)
