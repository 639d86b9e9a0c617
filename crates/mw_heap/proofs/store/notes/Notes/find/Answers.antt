-- The index at the place of the cell leads to its entry, if it has one.
use Rattle.std.proofs.Common.{◌≡◌, ℕ, ◌<◌, ◌≤◌, nat_eq, List, length, get_or, slice_get, Some, None, refl, ap, ap₂, ◌∙◌, sym}
use Rattle.std.specs.Map.{lookup}
use Rattle.std.proofs.lemmas.Option.{slice_get_past, slice_get_read}
use Rattle.mw_heap.proofs.Indices.{no_index, no_entry, other_entry, own_entry}
use Rattle.mw_heap.proofs.store.notes.Notes.find.Goals as goal

past : {X : Type 0} (xs ys : List X) (i j : ℕ) → xs ≡ ys → i ≡ j → length xs ≤ i → slice_get ys j ≡ None
past xs ys i j e k h = ap₂ slice_get (sym e) (sym k) ∙ slice_get_past xs i h

read : {X : Type 0} (xs ys : List X) (i j : ℕ) (x : X) → xs ≡ ys → i ≡ j → i < length xs → x ≡ get_or xs i x → slice_get ys j ≡ Some x
read xs ys i j x e k h g = ap₂ slice_get (sym e) (sym k) ∙ slice_get_read xs (length xs) i x refl h g

pub returns-in_default : goal.returns-in_default
returns-in_default c =
    let entries = c.self.inside.entries.items in
    let indices = c.self.inside.indices.items in
    no_index entries indices c.self.invariant c.args.x (past c.deref.result.now indices c.index.result c.args.x c.deref.ensures.value c.index.ensures c.in_default.ensures.lookup.3)
    ∙ ap (lookup (nat_eq c.args.x)) c.self.view_is

pub returns-in_default-get : goal.returns-in_default-get
returns-in_default-get c =
    let entries = c.self.inside.entries.items in
    let indices = c.self.inside.indices.items in
    let index = c.in-Some.index.now in
    let at = read c.deref.result.now indices c.index.result c.args.x index c.deref.ensures.value c.index.ensures c.in-Some.ensures.lookup.3.0 c.in-Some.ensures.lookup.1 in
    no_entry entries indices c.self.invariant c.args.x index at (past c.deref-2.result.now entries index index c.deref-2.ensures.value refl c.in_default-get.ensures.lookup.3)
    ∙ ap (lookup (nat_eq c.args.x)) c.self.view_is

pub returns-then-eq : goal.returns-then-eq
returns-then-eq c =
    let entries = c.self.inside.entries.items in
    let indices = c.self.inside.indices.items in
    let index = c.in-Some.index.now in
    let entry = c.in-Some-get.entry.now in
    let at = read c.deref.result.now indices c.index.result c.args.x index c.deref.ensures.value c.index.ensures c.in-Some.ensures.lookup.3.0 c.in-Some.ensures.lookup.1 in
    let stands = read c.deref-2.result.now entries index index entry c.deref-2.ensures.value refl c.in-Some-get.ensures.lookup.3.0 c.in-Some-get.ensures.lookup.1 in
    own_entry entries indices c.self.invariant c.args.x index at entry.0 entry.1 stands (sym c.eq.ensures ∙ c.if-eq.true)
    ∙ ap (lookup (nat_eq c.args.x)) c.self.view_is

pub returns-else-eq : goal.returns-else-eq
returns-else-eq c =
    let entries = c.self.inside.entries.items in
    let indices = c.self.inside.indices.items in
    let index = c.in-Some.index.now in
    let entry = c.in-Some-get.entry.now in
    let at = read c.deref.result.now indices c.index.result c.args.x index c.deref.ensures.value c.index.ensures c.in-Some.ensures.lookup.3.0 c.in-Some.ensures.lookup.1 in
    let stands = read c.deref-2.result.now entries index index entry c.deref-2.ensures.value refl c.in-Some-get.ensures.lookup.3.0 c.in-Some-get.ensures.lookup.1 in
    other_entry entries indices c.self.invariant c.args.x index at entry.0 entry.1 stands (sym c.eq.ensures ∙ c.if-eq.false)
    ∙ ap (lookup (nat_eq c.args.x)) c.self.view_is
