-- Drafts that passed their first tests, as functions and measures.
use Rattle.std.proofs.Common.{◌≡◌, ℕ, true, ◌&&◌, List, [], ◌∷◌, length, map, Option, Some, None, inl, inr, refl, sym, ap, ap₂, ◌∙◌, subst}
use Rattle.std.proofs.lemmas.Bool.{and_parts, and_from}
use Rattle.mw_model.specs.Terms.Object.{Name, Object}
use Rattle.mw_model.specs.Terms.Term.{Term, ArityTable, are_distinct, is_closed}
use Rattle.mw_model.specs.Terms.Reading.{term_of, that, when, and_more}
use Rattle.std.specs.Option.{option_zip}
use Rattle.mw_model.specs.Values.Primitive.{is_symbol, name_of}
use Rattle.mw_model.specs.Values.Definition.{Function}
use Rattle.mw_model.specs.Events.Expansion.{expand}
use Rattle.mw_model.specs.Events.Admission.{Draft, all_of, new_name, formals_of, add_names, functions, measures, are_closed_by}
use Rattle.mw_heap.specs.Objects.{object_at, IsIn, Grows}
use Rattle.mw_heap.proofs.Objects.{object_at-Grows, IsIn-Grows}
use Rattle.mw_term.specs.Parts.{names_at, AreSymbols}
use Rattle.mw_term.proofs.Symbols.{symbol_is}
use Rattle.mw_translate.specs.Expands.{ArePairsOfSymbols, pair_names, with_pairs}
use Rattle.mw_define.specs.declared.draft.Draft.{Draft as Given}
use Rattle.mw_define.specs.declared.admitted.Entry.{Entry}
use Rattle.mw_define.specs.Collecting.{the_term}
use Rattle.mw_define.specs.Blocks.{draft_at, IsDraftIn, AreDraftsIn, formals_of_drafts, bodies_of_drafts, measures_of_drafts, draft_names, the_formals, function_at, measure_at, functions_at, measures_at, IsExpanded, AreExpanded, are_closed_at, Each2, IsCounted, IsExpansion, Expands, HasNoTerm, IsClosedEntry, AreNames}
use Rattle.mw_define.specs.Owed.{AreBlock}
use Rattle.mw_define.specs.BlockTests.{the_names, IsFunctionEntry}
use Rattle.mw_define.proofs.Members.{all_of-map, all_of-each2, each2-weaker}
use Rattle.mw_define.proofs.Witnessed.{symbols-Grows, names-Grows}

-- a part of each draft
pub of-drafts : {Y : Type 0} (f : Object → Option Y) (p : Draft → Object) (os : List Object) (ds : List Given) → all_of f (map p (map (draft_at os) ds)) ≡ all_of (λ d. f (p (draft_at os d))) ds
of-drafts f p os ds = all_of-map f p (map (draft_at os) ds) ∙ all_of-map (λ d. f (p d)) (draft_at os) ds

pub names-are : (A : ArityTable) (os : List Object) (ds : List Given) (rs : List ℕ) → AreNames A os ds rs → the_names A (map (draft_at os) ds) ≡ Some (names_at os rs)
names-are A os ds rs n =
    ap (that are_distinct) (of-drafts (new_name A) (λ d. d.name) os ds ∙ n.names) ∙ ap (λ b. when b (Some (names_at os rs))) n.distinct

module _ (os : List Object) where
  -- the formals of drafts whose formals were counted
  pub record AreCounted (ds : List Given) (ps : List (ℕ × ℕ)) : Type 0 where
    pub formals : List (List Name)
    pub are : formals_of_drafts os ds ≡ Some formals
    pub pairs : (A : ArityTable) → with_pairs os ps A ≡ add_names (names_at os (draft_names ds)) formals A
    pub names : pair_names os ps ≡ names_at os (draft_names ds)

  pub counted : (ds : List Given) (ps : List (ℕ × ℕ)) → Each2 (IsCounted os) ds ps → AreCounted ds ps
  counted [] [] h = record { formals = []; are = refl; pairs = λ A. refl; names = refl }
  counted [] (p ∷ ps) h = absurd h
  counted (d ∷ ds) [] h = absurd h
  counted (d ∷ ds) (p ∷ ps) h =
      let xs = h.0.0 in
      let k = counted ds ps h.1 in
      let f = name_of (object_at os d.name) in
      record {
        formals = xs ∷ k.formals;
        are = ap₂ and_more h.0.1 k.are;
        pairs = λ A. ap (λ q. with_pairs os ps ((name_of (object_at os q.0), q.1) ∷ A)) h.0.2 ∙ k.pairs ((f, length xs) ∷ A);
        names = ap₂ (λ q ys. name_of (object_at os q.0) ∷ ys) h.0.2 k.names;
      }

  pub pairs-symbols : (ds : List Given) (ps : List (ℕ × ℕ)) → Each2 (IsCounted os) ds ps → AreSymbols os (draft_names ds) → ArePairsOfSymbols os ps
  pairs-symbols [] [] h s = tt
  pairs-symbols [] (p ∷ ps) h s = absurd h
  pairs-symbols (d ∷ ds) [] h s = absurd h
  pairs-symbols (d ∷ ds) (p ∷ ps) h s = (subst (λ q. IsIn os q.0 × (is_symbol (object_at os q.0) ≡ true)) (sym h.0.2) (s.0, s.1), pairs-symbols ds ps h.1 s.2)

  -- the pairs of drafts whose names are new and distinct
  pub new-symbols : (A : ArityTable) (ds : List Given) (rs : List ℕ) (ps : List (ℕ × ℕ)) → AreNames A os ds rs → Each2 (IsCounted os) ds ps → ArePairsOfSymbols os ps
  new-symbols A ds rs ps n h = pairs-symbols ds ps h (subst (AreSymbols os) n.refs n.symbols)

  pub new-distinct : (A : ArityTable) (ds : List Given) (rs : List ℕ) (ps : List (ℕ × ℕ)) → AreNames A os ds rs → Each2 (IsCounted os) ds ps → are_distinct (pair_names os ps) ≡ true
  new-distinct A ds rs ps n h = ap are_distinct ((counted ds ps h).names ∙ ap (names_at os) (sym n.refs)) ∙ n.distinct

-- where a body or a measure has no expansion
no-both : {X Y : Type 0} (o : Option X) → option_zip {U = Y} o None ≡ None
no-both None = refl
no-both (Some x) = refl

pub no-terms : (N A : ArityTable) (os : List Object) (ds : List Given) → HasNoTerm N A os ds → option_zip (all_of (expand N) (map (λ d. d.body) (map (draft_at os) ds))) (all_of (expand A) (map (λ d. d.measure) (map (draft_at os) ds))) ≡ None
no-terms N A os ds h =
    elim h [
      | inl b ↦ ap (λ o. option_zip o (all_of (expand A) (map (λ d. d.measure) (map (draft_at os) ds)))) (of-drafts (expand N) (λ d. d.body) os ds ∙ b)
      | inr m ↦ ap (option_zip (all_of (expand N) (map (λ d. d.body) (map (draft_at os) ds)))) (of-drafts (expand A) (λ d. d.measure) os ds ∙ m) ∙ no-both (all_of (expand N) (map (λ d. d.body) (map (draft_at os) ds)))
    ]

module _ (N A : ArityTable) (old new : List Object) (g : Grows old new) where
  abbrev pub bodies_at : List Given → List Term
  bodies_at es = map (λ e. (function_at new e).body) es

  abbrev pub terms_at : List Given → List Term
  terms_at es = map (measure_at new) es

  the-expansion : (T : ArityTable) (x : Object) (r : ℕ) → IsExpansion T new x r → expand T x ≡ Some (the_term (term_of (object_at new r)))
  the-expansion T x r h = h.expands ∙ ap (λ o. Some (the_term o)) (sym h.read)

  pub bodies-are : (ds es : List Given) → Each2 (Expands N A old new) ds es → bodies_of_drafts N old ds ≡ Some (bodies_at es)
  bodies-are ds es h = all_of-each2 (λ d. expand N (object_at old d.body)) (λ e. (function_at new e).body) ds es (each2-weaker (Expands N A old new) (λ d e. expand N (object_at old d.body) ≡ Some (function_at new e).body) (λ d e x. the-expansion N (object_at old d.body) e.body x.body) ds es h)

  pub measures-are : (ds es : List Given) → Each2 (Expands N A old new) ds es → measures_of_drafts A old ds ≡ Some (terms_at es)
  measures-are ds es h = all_of-each2 (λ d. expand A (object_at old d.measure)) (measure_at new) ds es (each2-weaker (Expands N A old new) (λ d e. expand A (object_at old d.measure) ≡ Some (measure_at new e)) (λ d e x. the-expansion A (object_at old d.measure) e.measure x.measure) ds es h)

  pub terms-are : (ds es : List Given) → Each2 (Expands N A old new) ds es → option_zip (all_of (expand N) (map (λ d. d.body) (map (draft_at old) ds))) (all_of (expand A) (map (λ d. d.measure) (map (draft_at old) ds))) ≡ Some (bodies_at es, terms_at es)
  terms-are ds es h = ap₂ (option_zip) (of-drafts (expand N) (λ d. d.body) old ds ∙ bodies-are ds es h) (of-drafts (expand A) (λ d. d.measure) old ds ∙ measures-are ds es h)

  -- one draft, as a function
  module _ (d e : Given) (within : IsDraftIn old d) (xs : List Name) (formals : formals_of (object_at old d.formals) ≡ Some xs) (symbol : is_symbol (object_at old d.name) ≡ true) (x : Expands N A old new d e) where
    name_kept : object_at new e.name ≡ object_at old d.name
    name_kept = ap (object_at new) x.name ∙ object_at-Grows old new g d.name within.0

    formals_kept : formals_of (object_at new e.formals) ≡ Some xs
    formals_kept = ap (λ r. formals_of (object_at new r)) x.formals ∙ (ap formals_of (object_at-Grows old new g d.formals within.1) ∙ formals)

    one-expanded : IsExpanded new e
    one-expanded = record {
      within = (subst (IsIn new) (sym x.name) (IsIn-Grows old new g d.name within.0), subst (IsIn new) (sym x.formals) (IsIn-Grows old new g d.formals within.1), x.body.within, x.measure.within);
      symbol = ap is_symbol name_kept ∙ symbol;
      formals = formals_kept ∙ ap (λ o. Some (the_formals o)) (sym formals_kept);
      body = x.body.read ∙ ap (λ o. Some (the_term o)) (sym x.body.read);
      measure = x.measure.read ∙ ap (λ o. Some (the_term o)) (sym x.measure.read);
    }

    one-function : function_at new e ≡ record { name = name_of (object_at old d.name); formals = xs; body = (function_at new e).body }
    one-function = ap₂ (λ o ys. of o ys (function_at new e).body) name_kept (ap the_formals formals_kept)
      where
        of : Object → List Name → Term → Function
        of o ys b = record { name = name_of o; formals = ys; body = b }

  -- the drafts as functions and measures
  pub record AreRead (ds es : List Given) : Type 0 where
    pub formals : List (List Name)
    pub are_formals : formals_of_drafts old ds ≡ Some formals
    pub expanded : AreExpanded new es
    pub same_names : draft_names es ≡ draft_names ds
    pub functions_are : functions_at new es ≡ functions (names_at old (draft_names ds)) formals (bodies_at es)
    pub measures_are : measures_at new es ≡ measures (names_at old (draft_names ds)) (terms_at es)
    pub closed : are_closed_at new es ≡ are_closed_by formals (bodies_at es) (terms_at es)

  pub read : (ds es : List Given) (ps : List (ℕ × ℕ)) → AreDraftsIn old ds → AreSymbols old (draft_names ds) → Each2 (IsCounted old) ds ps → Each2 (Expands N A old new) ds es → AreRead ds es
  read [] [] ps w s c x = record { formals = []; are_formals = refl; expanded = tt; same_names = refl; functions_are = refl; measures_are = refl; closed = refl }
  read [] (e ∷ es) ps w s c x = absurd x
  read (d ∷ ds) [] ps w s c x = absurd x
  read (d ∷ ds) (e ∷ es) [] w s c x = absurd c
  read (d ∷ ds) (e ∷ es) (p ∷ ps) w s c x =
      let k = read ds es ps w.1 s.2 c.1 x.1 in
      let xs = c.0.0 in
      let f = one-function d e w.0 xs c.0.1 s.1 x.0 in
      record {
        formals = xs ∷ k.formals;
        are_formals = ap₂ and_more c.0.1 k.are_formals;
        expanded = (one-expanded d e w.0 xs c.0.1 s.1 x.0, k.expanded);
        same_names = ap₂ (λ a l. a ∷ l) x.0.name k.same_names;
        functions_are = ap₂ (λ h hs. h ∷ hs) f k.functions_are;
        measures_are = ap₂ (λ o M. (name_of o, measure_at new e) ∷ M) (name_kept d e w.0 xs c.0.1 s.1 x.0) k.measures_are;
        closed = ap₂ (λ ys b. is_closed ys (function_at new e).body && (is_closed ys (measure_at new e) && b)) (ap the_formals (formals_kept d e w.0 xs c.0.1 s.1 x.0)) k.closed;
      }

pub block-is : (A : ArityTable) (old new : List Object) (ds es : List Given) (rs : List ℕ) → Grows old new → AreNames A old ds rs → AreExpanded new es → draft_names es ≡ draft_names ds → AreBlock new rs es
block-is A old new ds es rs g n x e = record {
  expanded = x;
  symbols = symbols-Grows old new rs g n.symbols;
  refs = n.refs ∙ sym e;
  distinct = ap are_distinct (names-Grows old new rs g n.symbols) ∙ n.distinct;
}

-- all of them are closed
pub closed-all : (os : List Object) (es : List Given) (entries : List Entry) → Each2 (IsClosedEntry os) es entries → are_closed_at os es ≡ true
closed-all os [] [] h = refl
closed-all os [] (n ∷ ns) h = absurd h
closed-all os (e ∷ es) [] h = absurd h
closed-all os (e ∷ es) (n ∷ ns) h =
    let a = is_closed (function_at os e).formals (function_at os e).body in
    let b = is_closed (function_at os e).formals (measure_at os e) in
    let p = and_parts a b h.0.0 in
    and_from a (b && are_closed_at os es) p.0 (and_from b (are_closed_at os es) p.1 (closed-all os es ns h.1))

-- the entries of the functions
pub entries-are : (old new : List Object) (es : List Given) (entries : List Entry) → Grows old new → AreExpanded old es → Each2 (IsClosedEntry old) es entries → Each2 (IsFunctionEntry new) (functions_at old es) entries
entries-are old new [] [] g x h = tt
entries-are old new [] (n ∷ ns) g x h = absurd h
entries-are old new (e ∷ es) [] g x h = absurd h
entries-are old new (e ∷ es) (n ∷ ns) g x h =
    let k = h.0.1 in
    let w = x.0.within in (
      record {
        name_in = subst (IsIn new) (sym k.name) (IsIn-Grows old new g e.name w.0);
        name = ap (object_at new) k.name ∙ (object_at-Grows old new g e.name w.0 ∙ symbol_is (object_at old e.name) x.0.symbol);
        formals_in = IsIn-Grows old new g n.formals k.formals_in;
        formals = object_at-Grows old new g n.formals k.formals_in ∙ k.formals;
        body_in = IsIn-Grows old new g n.body k.body_in;
        body = object_at-Grows old new g n.body k.body_in ∙ k.body;
      },
      entries-are old new es ns g x.1 h.1,
    )
