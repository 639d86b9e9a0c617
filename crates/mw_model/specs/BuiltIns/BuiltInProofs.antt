-- Built-in definitions written out as terms: induction, steps, proofs and provability.
use Rattle.std.specs.Prelude.{[], ◌∷◌}
use Rattle.mw_model.specs.Terms.Object.{Natural, Pair, named, symbol, NIL, T}
use Rattle.mw_model.specs.Terms.Term.{Constant, If, Lambda}
use Rattle.mw_model.specs.Values.Definition.{Function, Block, Choice}
use Rattle.mw_model.specs.Events.Expansion.{let_term}
use Rattle.mw_model.specs.Events.Writing.{terms, var, call, ◌&◌, first, second, third, fourth}

abbrev pub logic_ind_steps : Function
logic_ind_steps = record { name = named "LOGIC.IND-STEPS"; formals = named "F" ∷ named "QS" ∷ named "SS" ∷ named "REST" ∷ []; body = (If (call "CONSP" ((var "QS") ∷ [])) (call "CONS" ((call "LOGIC.DISJOIN" ((call "CONS" ((var "F") ∷ (call "CONS" ((call "LOGIC.PNOT" ((call "CAR" ((var "QS") ∷ [])) ∷ [])) ∷ (call "LOGIC.IND-HYPS" ((var "F") ∷ (call "CAR" ((var "SS") ∷ [])) ∷ [])) ∷ [])) ∷ [])) ∷ [])) ∷ (call "LOGIC.IND-STEPS" ((var "F") ∷ (call "CDR" ((var "QS") ∷ [])) ∷ (call "CDR" ((var "SS") ∷ [])) ∷ (var "REST") ∷ [])) ∷ [])) (var "REST")) }

abbrev pub logic_ind_dec : Function
logic_ind_dec = record { name = named "LOGIC.IND-DEC"; formals = named "M" ∷ named "Q" ∷ named "SS" ∷ named "REST" ∷ []; body = (If (call "CONSP" ((var "SS") ∷ [])) (call "CONS" ((call "LOGIC.POR" ((call "LOGIC.PNOT" ((var "Q") ∷ [])) ∷ (call "LOGIC.PEQUAL" ((call "CONS" ((Constant (symbol "ORD<")) ∷ (call "CONS" ((call "LOGIC.SUBSTITUTE" ((var "M") ∷ (call "CAR" ((var "SS") ∷ [])) ∷ [])) ∷ (call "CONS" ((var "M") ∷ (Constant NIL) ∷ [])) ∷ [])) ∷ [])) ∷ (Constant (Pair (symbol "QUOTE") (Pair T NIL))) ∷ [])) ∷ [])) ∷ (call "LOGIC.IND-DEC" ((var "M") ∷ (var "Q") ∷ (call "CDR" ((var "SS") ∷ [])) ∷ (var "REST") ∷ [])) ∷ [])) (var "REST")) }

abbrev pub logic_ind_decs : Function
logic_ind_decs = record { name = named "LOGIC.IND-DECS"; formals = named "M" ∷ named "QS" ∷ named "SS" ∷ []; body = (If (call "CONSP" ((var "QS") ∷ [])) (call "LOGIC.IND-DEC" ((var "M") ∷ (call "CAR" ((var "QS") ∷ [])) ∷ (call "CAR" ((var "SS") ∷ [])) ∷ (call "LOGIC.IND-DECS" ((var "M") ∷ (call "CDR" ((var "QS") ∷ [])) ∷ (call "CDR" ((var "SS") ∷ [])) ∷ [])) ∷ [])) (Constant NIL)) }

abbrev pub logic_induction_okp : Function
logic_induction_okp = record { name = named "LOGIC.INDUCTION-OKP"; formals = named "C" ∷ named "AS" ∷ named "E" ∷ named "ATBL" ∷ []; body = (let_term ((named "M", (first (var "E"))) ∷ (named "QS", (second (var "E"))) ∷ (named "SS", (third (var "E"))) ∷ []) ((call "LOGIC.LENP" ((var "E") ∷ (Constant (Natural 3)) ∷ [])) & (call "LOGIC.LISTP" ((var "QS") ∷ [])) & (call "EQUAL" ((call "LOGIC.LEN" ((var "QS") ∷ [])) ∷ (call "LOGIC.LEN" ((var "SS") ∷ [])) ∷ [])) & (call "LOGIC.SIGMA-LIST-LISTP" ((var "SS") ∷ (var "ATBL") ∷ [])) & (call "EQUAL" ((var "AS") ∷ (call "CONS" ((call "LOGIC.DISJOIN" ((call "CONS" ((var "C") ∷ (var "QS") ∷ [])) ∷ [])) ∷ (call "LOGIC.IND-STEPS" ((var "C") ∷ (var "QS") ∷ (var "SS") ∷ (call "CONS" ((call "LOGIC.PEQUAL" ((call "CONS" ((Constant (symbol "ORDP")) ∷ (call "CONS" ((var "M") ∷ (Constant NIL) ∷ [])) ∷ [])) ∷ (Constant (Pair (symbol "QUOTE") (Pair T NIL))) ∷ [])) ∷ (call "LOGIC.IND-DECS" ((var "M") ∷ (var "QS") ∷ (var "SS") ∷ [])) ∷ [])) ∷ [])) ∷ [])) ∷ [])))) }

abbrev pub logic_step_okp : Function
logic_step_okp = record { name = named "LOGIC.STEP-OKP"; formals = named "X" ∷ named "AXIOMS" ∷ named "THMS" ∷ named "ATBL" ∷ []; body = (let_term ((named "M", (first (var "X"))) ∷ []) (let_term ((named "C", (second (var "X"))) ∷ []) (let_term ((named "AS", (call "LOGIC.CONCLUSIONS" ((third (var "X")) ∷ []))) ∷ []) (let_term ((named "E", (fourth (var "X"))) ∷ []) (let_term ((named "N", (call "LOGIC.LEN" ((var "AS") ∷ []))) ∷ []) (let_term ((named "A", (first (var "AS"))) ∷ []) (If (call "EQUAL" ((var "M") ∷ (Constant (symbol "INSTANTIATION")) ∷ [])) ((call "EQUAL" ((var "N") ∷ (Constant (Natural 1)) ∷ [])) & (call "LOGIC.INSTANTIATION-OKP" ((var "C") ∷ (var "A") ∷ (var "E") ∷ (var "ATBL") ∷ []))) (If (call "EQUAL" ((var "M") ∷ (Constant (symbol "INDUCTION")) ∷ [])) (call "LOGIC.INDUCTION-OKP" ((var "C") ∷ (var "AS") ∷ (var "E") ∷ (var "ATBL") ∷ [])) (If (var "E") (Constant NIL) (If (call "EQUAL" ((var "N") ∷ (Constant (Natural 0)) ∷ [])) (If (call "EQUAL" ((var "M") ∷ (Constant (symbol "AXIOM")) ∷ [])) (call "LOGIC.MEMBERP" ((var "C") ∷ (var "AXIOMS") ∷ [])) (If (call "EQUAL" ((var "M") ∷ (Constant (symbol "THEOREM")) ∷ [])) (call "LOGIC.MEMBERP" ((var "C") ∷ (var "THMS") ∷ [])) (If (call "EQUAL" ((var "M") ∷ (Constant (symbol "PROPOSITIONAL-SCHEMA")) ∷ [])) (call "LOGIC.SCHEMA-OKP" ((var "C") ∷ [])) (If (call "EQUAL" ((var "M") ∷ (Constant (symbol "FUNCTIONAL-EQUALITY")) ∷ [])) (call "LOGIC.FUNCTIONAL-EQUALITY-OKP" ((var "C") ∷ [])) (If (call "EQUAL" ((var "M") ∷ (Constant (symbol "BETA-REDUCTION")) ∷ [])) (call "LOGIC.BETA-REDUCTION-OKP" ((var "C") ∷ [])) (If (call "EQUAL" ((var "M") ∷ (Constant (symbol "BASE-EVAL")) ∷ [])) (call "LOGIC.BASE-EVAL-OKP" ((var "C") ∷ [])) (Constant NIL))))))) (If (call "EQUAL" ((var "N") ∷ (Constant (Natural 1)) ∷ [])) (If (call "EQUAL" ((var "M") ∷ (Constant (symbol "EXPANSION")) ∷ [])) (call "LOGIC.EXPANSION-OKP" ((var "C") ∷ (var "A") ∷ [])) (If (call "EQUAL" ((var "M") ∷ (Constant (symbol "CONTRACTION")) ∷ [])) (call "LOGIC.CONTRACTION-OKP" ((var "C") ∷ (var "A") ∷ [])) (If (call "EQUAL" ((var "M") ∷ (Constant (symbol "ASSOCIATIVITY")) ∷ [])) (call "LOGIC.ASSOCIATIVITY-OKP" ((var "C") ∷ (var "A") ∷ [])) (Constant NIL)))) (If (call "EQUAL" ((var "N") ∷ (Constant (Natural 2)) ∷ [])) ((call "EQUAL" ((var "M") ∷ (Constant (symbol "CUT")) ∷ [])) & (call "LOGIC.CUT-OKP" ((var "C") ∷ (var "A") ∷ (second (var "AS")) ∷ []))) (Constant NIL))))))))))))) }

abbrev pub logic_flag_proofp : Function
logic_flag_proofp = record { name = named "LOGIC.FLAG-PROOFP"; formals = named "FLAG" ∷ named "X" ∷ named "AXIOMS" ∷ named "THMS" ∷ named "ATBL" ∷ []; body = (If (call "EQUAL" ((var "FLAG") ∷ (Constant (symbol "PROOF")) ∷ [])) (If (call "CONSP" ((var "X") ∷ [])) ((call "LOGIC.LISTP" ((var "X") ∷ [])) & (call "LOGIC.MEMBERP" ((call "LOGIC.LEN" ((var "X") ∷ [])) ∷ (Constant (Pair (Natural 2) (Pair (Natural 3) (Pair (Natural 4) NIL)))) ∷ [])) & (call "LOGIC.FORMULAP" ((second (var "X")) ∷ (var "ATBL") ∷ [])) & (call "LOGIC.FLAG-PROOFP" ((Constant (symbol "LIST")) ∷ (third (var "X")) ∷ (var "AXIOMS") ∷ (var "THMS") ∷ (var "ATBL") ∷ [])) & (call "LOGIC.STEP-OKP" ((var "X") ∷ (var "AXIOMS") ∷ (var "THMS") ∷ (var "ATBL") ∷ []))) (Constant NIL)) (If (call "CONSP" ((var "X") ∷ [])) ((call "LOGIC.FLAG-PROOFP" ((Constant (symbol "PROOF")) ∷ (call "CAR" ((var "X") ∷ [])) ∷ (var "AXIOMS") ∷ (var "THMS") ∷ (var "ATBL") ∷ [])) & (call "LOGIC.FLAG-PROOFP" ((Constant (symbol "LIST")) ∷ (call "CDR" ((var "X") ∷ [])) ∷ (var "AXIOMS") ∷ (var "THMS") ∷ (var "ATBL") ∷ []))) (call "EQUAL" ((var "X") ∷ (Constant NIL) ∷ [])))) }

abbrev pub logic_proofp : Function
logic_proofp = record { name = named "LOGIC.PROOFP"; formals = named "X" ∷ named "AXIOMS" ∷ named "THMS" ∷ named "ATBL" ∷ []; body = (call "LOGIC.FLAG-PROOFP" ((Constant (symbol "PROOF")) ∷ (var "X") ∷ (var "AXIOMS") ∷ (var "THMS") ∷ (var "ATBL") ∷ [])) }

abbrev pub logic_provable_witness : Block
logic_provable_witness = Choice (named "LOGIC.PROVABLE-WITNESS") (named "PROOF") (named "X" ∷ named "AXIOMS" ∷ named "THMS" ∷ named "ATBL" ∷ []) ((call "LOGIC.PROOFP" ((var "PROOF") ∷ (var "AXIOMS") ∷ (var "THMS") ∷ (var "ATBL") ∷ [])) & (call "EQUAL" ((call "LOGIC.CONCLUSION" ((var "PROOF") ∷ [])) ∷ (var "X") ∷ [])))

abbrev pub logic_provablep : Function
logic_provablep = record { name = named "LOGIC.PROVABLEP"; formals = named "X" ∷ named "AXIOMS" ∷ named "THMS" ∷ named "ATBL" ∷ []; body = (Lambda (named "PROOF" ∷ named "X" ∷ named "AXIOMS" ∷ named "THMS" ∷ named "ATBL" ∷ []) ((call "LOGIC.PROOFP" ((var "PROOF") ∷ (var "AXIOMS") ∷ (var "THMS") ∷ (var "ATBL") ∷ [])) & (call "EQUAL" ((call "LOGIC.CONCLUSION" ((var "PROOF") ∷ [])) ∷ (var "X") ∷ []))) (terms ((call "LOGIC.PROVABLE-WITNESS" ((var "X") ∷ (var "AXIOMS") ∷ (var "THMS") ∷ (var "ATBL") ∷ [])) ∷ (var "X") ∷ (var "AXIOMS") ∷ (var "THMS") ∷ (var "ATBL") ∷ []))) }
