-- Built-in definitions written out as terms: the rules of the table of methods but for induction.
use Rattle.std.specs.Prelude.{[], ◌∷◌}
use Rattle.mw_model.specs.Terms.Object.{Object, Pair, named, symbol, NIL, T}
use Rattle.mw_model.specs.Terms.Term.{Term, Constant, If}
use Rattle.mw_model.specs.Values.Primitive.{Profile, One, Two}
use Rattle.mw_model.specs.Values.Definition.{Function}
use Rattle.mw_model.specs.Events.Expansion.{let_term}
use Rattle.mw_model.specs.Events.Writing.{var, call, ◌&◌, first, second, third}

abbrev pub logic_disjoin : Function
logic_disjoin = record { name = named "LOGIC.DISJOIN"; formals = named "X" ∷ []; body = (If (call "CONSP" ((var "X") ∷ [])) (If (call "CONSP" ((call "CDR" ((var "X") ∷ [])) ∷ [])) (call "LOGIC.POR" ((call "CAR" ((var "X") ∷ [])) ∷ (call "LOGIC.DISJOIN" ((call "CDR" ((var "X") ∷ [])) ∷ [])) ∷ [])) (call "CAR" ((var "X") ∷ []))) (Constant NIL)) }

abbrev pub logic_schema_okp : Function
logic_schema_okp = record { name = named "LOGIC.SCHEMA-OKP"; formals = named "C" ∷ []; body = ((call "EQUAL" ((first (var "C")) ∷ (Constant (symbol "POR*")) ∷ [])) & (call "EQUAL" ((second (var "C")) ∷ (call "LOGIC.PNOT" ((third (var "C")) ∷ [])) ∷ []))) }

abbrev pub logic_expansion_okp : Function
logic_expansion_okp = record { name = named "LOGIC.EXPANSION-OKP"; formals = named "C" ∷ named "A" ∷ []; body = ((call "EQUAL" ((first (var "C")) ∷ (Constant (symbol "POR*")) ∷ [])) & (call "EQUAL" ((third (var "C")) ∷ (var "A") ∷ []))) }

abbrev pub logic_contraction_okp : Function
logic_contraction_okp = record { name = named "LOGIC.CONTRACTION-OKP"; formals = named "C" ∷ named "A" ∷ []; body = (call "EQUAL" ((var "A") ∷ (call "LOGIC.POR" ((var "C") ∷ (var "C") ∷ [])) ∷ [])) }

abbrev pub logic_associativity_okp : Function
logic_associativity_okp = record { name = named "LOGIC.ASSOCIATIVITY-OKP"; formals = named "C" ∷ named "A" ∷ []; body = ((call "EQUAL" ((first (var "A")) ∷ (Constant (symbol "POR*")) ∷ [])) & (call "EQUAL" ((first (third (var "A"))) ∷ (Constant (symbol "POR*")) ∷ [])) & (call "EQUAL" ((var "C") ∷ (call "LOGIC.POR" ((call "LOGIC.POR" ((second (var "A")) ∷ (second (third (var "A"))) ∷ [])) ∷ (third (third (var "A"))) ∷ [])) ∷ []))) }

abbrev pub logic_cut_okp : Function
logic_cut_okp = record { name = named "LOGIC.CUT-OKP"; formals = named "C" ∷ named "A" ∷ named "B" ∷ []; body = ((call "EQUAL" ((first (var "A")) ∷ (Constant (symbol "POR*")) ∷ [])) & (call "EQUAL" ((first (var "B")) ∷ (Constant (symbol "POR*")) ∷ [])) & (call "EQUAL" ((second (var "B")) ∷ (call "LOGIC.PNOT" ((second (var "A")) ∷ [])) ∷ [])) & (call "EQUAL" ((var "C") ∷ (call "LOGIC.POR" ((third (var "A")) ∷ (third (var "B")) ∷ [])) ∷ []))) }

abbrev pub logic_instantiation_okp : Function
logic_instantiation_okp = record { name = named "LOGIC.INSTANTIATION-OKP"; formals = named "C" ∷ named "A" ∷ named "S" ∷ named "ATBL" ∷ []; body = ((call "LOGIC.SIGMAP" ((var "S") ∷ (var "ATBL") ∷ [])) & (call "EQUAL" ((var "C") ∷ (call "LOGIC.FORMULA-SUBSTITUTE" ((var "A") ∷ (var "S") ∷ [])) ∷ []))) }

abbrev pub logic_last_disjunct : Function
logic_last_disjunct = record { name = named "LOGIC.LAST-DISJUNCT"; formals = named "C" ∷ []; body = (If (call "CONSP" ((var "C") ∷ [])) (If (call "EQUAL" ((first (var "C")) ∷ (Constant (symbol "POR*")) ∷ [])) (call "LOGIC.LAST-DISJUNCT" ((third (var "C")) ∷ [])) (var "C")) (var "C")) }

abbrev pub logic_feq : Function
logic_feq = record { name = named "LOGIC.FEQ"; formals = named "XS" ∷ named "YS" ∷ named "E" ∷ []; body = (If (call "CONSP" ((var "XS") ∷ [])) (call "LOGIC.POR" ((call "LOGIC.PNOT" ((call "LOGIC.PEQUAL" ((call "CAR" ((var "XS") ∷ [])) ∷ (call "CAR" ((var "YS") ∷ [])) ∷ [])) ∷ [])) ∷ (call "LOGIC.FEQ" ((call "CDR" ((var "XS") ∷ [])) ∷ (call "CDR" ((var "YS") ∷ [])) ∷ (var "E") ∷ [])) ∷ [])) (var "E")) }

abbrev pub logic_functional_equality_okp : Function
logic_functional_equality_okp = record { name = named "LOGIC.FUNCTIONAL-EQUALITY-OKP"; formals = named "C" ∷ []; body = (let_term ((named "E", (call "LOGIC.LAST-DISJUNCT" ((var "C") ∷ []))) ∷ []) (let_term ((named "L", (second (var "E"))) ∷ []) (let_term ((named "R", (third (var "E"))) ∷ []) ((call "EQUAL" ((first (var "E")) ∷ (Constant (symbol "PEQUAL*")) ∷ [])) & (call "CONSP" ((var "L") ∷ [])) & (call "CONSP" ((var "R") ∷ [])) & (call "SYMBOLP" ((call "CAR" ((var "L") ∷ [])) ∷ [])) & (If (call "EQUAL" ((call "CAR" ((var "L") ∷ [])) ∷ (Constant (symbol "QUOTE")) ∷ [])) (Constant NIL) (Constant T)) & (call "EQUAL" ((call "CAR" ((var "L") ∷ [])) ∷ (call "CAR" ((var "R") ∷ [])) ∷ [])) & (call "EQUAL" ((var "C") ∷ (call "LOGIC.FEQ" ((call "CDR" ((var "L") ∷ [])) ∷ (call "CDR" ((var "R") ∷ [])) ∷ (var "E") ∷ [])) ∷ [])))))) }

abbrev pub logic_beta_reduction_okp : Function
logic_beta_reduction_okp = record { name = named "LOGIC.BETA-REDUCTION-OKP"; formals = named "C" ∷ []; body = (let_term ((named "L", (second (var "C"))) ∷ []) ((call "EQUAL" ((first (var "C")) ∷ (Constant (symbol "PEQUAL*")) ∷ [])) & (call "CONSP" ((call "CAR" ((var "L") ∷ [])) ∷ [])) & (call "EQUAL" ((third (var "C")) ∷ (call "LOGIC.SUBSTITUTE" ((third (call "CAR" ((var "L") ∷ []))) ∷ (call "LOGIC.PAIR" ((second (call "CAR" ((var "L") ∷ []))) ∷ (call "CDR" ((var "L") ∷ [])) ∷ [])) ∷ [])) ∷ [])))) }

abbrev pub product_list : Profile → Object
product_list One = NIL
product_list Two = Pair (symbol "*") NIL

abbrev pub primitive_list : Profile → Object
primitive_list P = Pair (symbol "IF") (Pair (symbol "EQUAL") (Pair (symbol "CONSP") (Pair (symbol "CONS") (Pair (symbol "CAR") (Pair (symbol "CDR") (Pair (symbol "SYMBOLP") (Pair (symbol "SYMBOL-<") (Pair (symbol "NATP") (Pair (symbol "<") (Pair (symbol "+") (Pair (symbol "-") (product_list P))))))))))))

-- the clause of the product, in the profile that has one
abbrev pub apply_product : Profile → Term
apply_product One = Constant NIL
apply_product Two = If (call "EQUAL" (var "F" ∷ Constant (symbol "*") ∷ [])) (call "*" (var "X" ∷ var "Y" ∷ [])) (Constant NIL)

abbrev pub logic_primitivep : Profile → Function
logic_primitivep P = record { name = named "LOGIC.PRIMITIVEP"; formals = named "F" ∷ []; body = (call "LOGIC.MEMBERP" ((var "F") ∷ (Constant (primitive_list P)) ∷ [])) }

abbrev pub logic_apply : Profile → Function
logic_apply P = record { name = named "LOGIC.APPLY"; formals = named "F" ∷ named "A" ∷ []; body = (let_term ((named "X", (first (var "A"))) ∷ (named "Y", (second (var "A"))) ∷ (named "Z", (third (var "A"))) ∷ []) (If (call "EQUAL" ((var "F") ∷ (Constant (symbol "IF")) ∷ [])) (If (var "X") (var "Y") (var "Z")) (If (call "EQUAL" ((var "F") ∷ (Constant (symbol "EQUAL")) ∷ [])) (call "EQUAL" ((var "X") ∷ (var "Y") ∷ [])) (If (call "EQUAL" ((var "F") ∷ (Constant (symbol "CONSP")) ∷ [])) (call "CONSP" ((var "X") ∷ [])) (If (call "EQUAL" ((var "F") ∷ (Constant (symbol "CONS")) ∷ [])) (call "CONS" ((var "X") ∷ (var "Y") ∷ [])) (If (call "EQUAL" ((var "F") ∷ (Constant (symbol "CAR")) ∷ [])) (call "CAR" ((var "X") ∷ [])) (If (call "EQUAL" ((var "F") ∷ (Constant (symbol "CDR")) ∷ [])) (call "CDR" ((var "X") ∷ [])) (If (call "EQUAL" ((var "F") ∷ (Constant (symbol "SYMBOLP")) ∷ [])) (call "SYMBOLP" ((var "X") ∷ [])) (If (call "EQUAL" ((var "F") ∷ (Constant (symbol "SYMBOL-<")) ∷ [])) (call "SYMBOL-<" ((var "X") ∷ (var "Y") ∷ [])) (If (call "EQUAL" ((var "F") ∷ (Constant (symbol "NATP")) ∷ [])) (call "NATP" ((var "X") ∷ [])) (If (call "EQUAL" ((var "F") ∷ (Constant (symbol "<")) ∷ [])) (call "<" ((var "X") ∷ (var "Y") ∷ [])) (If (call "EQUAL" ((var "F") ∷ (Constant (symbol "+")) ∷ [])) (call "+" ((var "X") ∷ (var "Y") ∷ [])) (If (call "EQUAL" ((var "F") ∷ (Constant (symbol "-")) ∷ [])) (call "-" ((var "X") ∷ (var "Y") ∷ [])) (apply_product P)))))))))))))) }

abbrev pub logic_base_eval_okp : Function
logic_base_eval_okp = record { name = named "LOGIC.BASE-EVAL-OKP"; formals = named "C" ∷ []; body = (let_term ((named "L", (second (var "C"))) ∷ (named "R", (third (var "C"))) ∷ []) ((call "EQUAL" ((first (var "C")) ∷ (Constant (symbol "PEQUAL*")) ∷ [])) & (call "CONSP" ((var "L") ∷ [])) & (call "LOGIC.PRIMITIVEP" ((call "CAR" ((var "L") ∷ [])) ∷ [])) & (call "LOGIC.CONST-LISTP" ((call "CDR" ((var "L") ∷ [])) ∷ [])) & (call "LOGIC.CONSTANTP" ((var "R") ∷ [])) & (call "EQUAL" ((second (var "R")) ∷ (call "LOGIC.APPLY" ((call "CAR" ((var "L") ∷ [])) ∷ (call "LOGIC.UNQUOTE-LIST" ((call "CDR" ((var "L") ∷ [])) ∷ [])) ∷ [])) ∷ [])))) }

abbrev pub logic_ind_hyps : Function
logic_ind_hyps = record { name = named "LOGIC.IND-HYPS"; formals = named "F" ∷ named "SS" ∷ []; body = (If (call "CONSP" ((var "SS") ∷ [])) (call "CONS" ((call "LOGIC.PNOT" ((call "LOGIC.FORMULA-SUBSTITUTE" ((var "F") ∷ (call "CAR" ((var "SS") ∷ [])) ∷ [])) ∷ [])) ∷ (call "LOGIC.IND-HYPS" ((var "F") ∷ (call "CDR" ((var "SS") ∷ [])) ∷ [])) ∷ [])) (Constant NIL)) }
