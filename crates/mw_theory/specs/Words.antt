-- The events, by their members.
use Rattle.std.specs.Prelude.{◌≡◌, ℕ, ◌<◌, List}
use Rattle.mw_model.specs.Terms.Object.{Object, Pair, symbol, list2, list3, list4}
use Rattle.mw_heap.specs.Objects.{object_at}
use Rattle.mw_heap.specs.Words.{word_object}
use Rattle.mw_heap.specs.declared.vocabulary.word.Word.{Word}
use Rattle.mw_theory.specs.declared.event.Event.{Event}
use Rattle.mw_theory.specs.declared.event.Event.TheVariants.{Verify, Define, Skolem, Switch, Eval, Print, DefineAll, Profile}

abbrev pub verify_event : (name formula proof : Object) → Object
verify_event name formula proof = Pair (symbol "VERIFY") (list3 name formula proof)

abbrev pub define_event : (name formals body measure proofs : Object) → Object
define_event name formals body measure proofs = Pair (symbol "DEFINE") (Pair name (list4 formals body measure proofs))

abbrev pub skolem_event : (name bound free body : Object) → Object
skolem_event name bound free body = Pair (symbol "SKOLEM") (list4 name bound free body)

abbrev pub switch_event : Object → Object
switch_event name = list2 (symbol "SWITCH") name

abbrev pub eval_event : Object → Object
eval_event term = list2 (symbol "EVAL") term

abbrev pub print_event : Object → Object
print_event x = list2 (symbol "PRINT") x

abbrev pub define_all_event : (definitions proofs : Object) → Object
define_all_event definitions proofs = list3 (symbol "DEFINE-ALL") definitions proofs

abbrev pub profile_event : Object → Object
profile_event n = list2 (symbol "PROFILE") n

abbrev pub event_object : List Object → Event → Object
event_object os (Verify name formula proof) = verify_event (object_at os name) (object_at os formula) (object_at os proof)
event_object os (Define name formals body measure proofs) = define_event (object_at os name) (object_at os formals) (object_at os body) (object_at os measure) (object_at os proofs)
event_object os (Skolem name bound free body) = skolem_event (object_at os name) (object_at os bound) (object_at os free) (object_at os body)
event_object os (Switch name) = switch_event (object_at os name)
event_object os (Eval term) = eval_event (object_at os term)
event_object os (Print x) = print_event (object_at os x)
event_object os (DefineAll definitions proofs) = define_all_event (object_at os definitions) (object_at os proofs)
event_object os (Profile n) = profile_event (object_at os n)

-- its members stand before x
abbrev pub StandsBefore : ℕ → Event → Type 0
StandsBefore x (Verify name formula proof) = (name < x) × (formula < x) × (proof < x)
StandsBefore x (Define name formals body measure proofs) = (name < x) × (formals < x) × (body < x) × (measure < x) × (proofs < x)
StandsBefore x (Skolem name bound free body) = (name < x) × (bound < x) × (free < x) × (body < x)
StandsBefore x (Switch name) = name < x
StandsBefore x (Eval term) = term < x
StandsBefore x (Print y) = y < x
StandsBefore x (DefineAll definitions proofs) = (definitions < x) × (proofs < x)
StandsBefore x (Profile n) = n < x

-- the object at x is that event, whose members stand before it
abbrev pub IsEvent : List Object → ℕ → Event → Type 0
IsEvent os x e = (object_at os x ≡ event_object os e) × StandsBefore x e

-- the event has this word and the members of the list at x
abbrev pub IsEventOf : List Object → Word → ℕ → Event → Type 0
IsEventOf os w x e = (event_object os e ≡ Pair (word_object w) (object_at os x)) × StandsBefore x e
