-- Built-in definitions written out as terms: ordinals, lists, terms, formulas and substitution.
use Rattle.std.specs.Prelude.{[], ◌∷◌}
use Rattle.mw_model.specs.Terms.Object.{Natural, named, symbol, NIL, T}
use Rattle.mw_model.specs.Terms.Term.{Constant, If}
use Rattle.mw_model.specs.Values.Definition.{Function}
use Rattle.mw_model.specs.Events.Writing.{var, call, ◌&◌, first, second, third}

abbrev pub rank : Function
rank = record { name = named "RANK"; formals = named "X" ∷ []; body = (If (call "CONSP" ((var "X") ∷ [])) (call "+" ((Constant (Natural 1)) ∷ (call "+" ((call "RANK" ((call "CAR" ((var "X") ∷ [])) ∷ [])) ∷ (call "RANK" ((call "CDR" ((var "X") ∷ [])) ∷ [])) ∷ [])) ∷ [])) (Constant (Natural 0))) }

abbrev pub ord_less : Function
ord_less = record { name = named "ORD<"; formals = named "X" ∷ named "Y" ∷ []; body = (If (call "CONSP" ((var "X") ∷ [])) (If (call "CONSP" ((var "Y") ∷ [])) (If (call "EQUAL" ((call "CAR" ((call "CAR" ((var "X") ∷ [])) ∷ [])) ∷ (call "CAR" ((call "CAR" ((var "Y") ∷ [])) ∷ [])) ∷ [])) (If (call "EQUAL" ((call "CDR" ((call "CAR" ((var "X") ∷ [])) ∷ [])) ∷ (call "CDR" ((call "CAR" ((var "Y") ∷ [])) ∷ [])) ∷ [])) (call "ORD<" ((call "CDR" ((var "X") ∷ [])) ∷ (call "CDR" ((var "Y") ∷ [])) ∷ [])) (call "<" ((call "CDR" ((call "CAR" ((var "X") ∷ [])) ∷ [])) ∷ (call "CDR" ((call "CAR" ((var "Y") ∷ [])) ∷ [])) ∷ []))) (call "ORD<" ((call "CAR" ((call "CAR" ((var "X") ∷ [])) ∷ [])) ∷ (call "CAR" ((call "CAR" ((var "Y") ∷ [])) ∷ [])) ∷ []))) (Constant NIL)) (If (call "CONSP" ((var "Y") ∷ [])) (Constant T) (call "<" ((var "X") ∷ (var "Y") ∷ [])))) }

abbrev pub ordp : Function
ordp = record { name = named "ORDP"; formals = named "X" ∷ []; body = (If (call "CONSP" ((var "X") ∷ [])) ((call "CONSP" ((call "CAR" ((var "X") ∷ [])) ∷ [])) & (call "ORDP" ((call "CAR" ((call "CAR" ((var "X") ∷ [])) ∷ [])) ∷ [])) & (If (call "EQUAL" ((call "CAR" ((call "CAR" ((var "X") ∷ [])) ∷ [])) ∷ (Constant (Natural 0)) ∷ [])) (Constant NIL) (Constant T)) & (call "NATP" ((call "CDR" ((call "CAR" ((var "X") ∷ [])) ∷ [])) ∷ [])) & (call "<" ((Constant (Natural 0)) ∷ (call "CDR" ((call "CAR" ((var "X") ∷ [])) ∷ [])) ∷ [])) & (call "ORDP" ((call "CDR" ((var "X") ∷ [])) ∷ [])) & (If (call "CONSP" ((call "CDR" ((var "X") ∷ [])) ∷ [])) (call "ORD<" ((call "CAR" ((call "CAR" ((call "CDR" ((var "X") ∷ [])) ∷ [])) ∷ [])) ∷ (call "CAR" ((call "CAR" ((var "X") ∷ [])) ∷ [])) ∷ [])) (Constant T))) (call "NATP" ((var "X") ∷ []))) }

abbrev pub logic_listp : Function
logic_listp = record { name = named "LOGIC.LISTP"; formals = named "X" ∷ []; body = (If (call "CONSP" ((var "X") ∷ [])) (call "LOGIC.LISTP" ((call "CDR" ((var "X") ∷ [])) ∷ [])) (call "EQUAL" ((var "X") ∷ (Constant NIL) ∷ []))) }

abbrev pub logic_len : Function
logic_len = record { name = named "LOGIC.LEN"; formals = named "X" ∷ []; body = (If (call "CONSP" ((var "X") ∷ [])) (call "+" ((Constant (Natural 1)) ∷ (call "LOGIC.LEN" ((call "CDR" ((var "X") ∷ [])) ∷ [])) ∷ [])) (Constant (Natural 0))) }

abbrev pub logic_lenp : Function
logic_lenp = record { name = named "LOGIC.LENP"; formals = named "X" ∷ named "N" ∷ []; body = ((call "LOGIC.LISTP" ((var "X") ∷ [])) & (call "EQUAL" ((call "LOGIC.LEN" ((var "X") ∷ [])) ∷ (var "N") ∷ []))) }

abbrev pub logic_memberp : Function
logic_memberp = record { name = named "LOGIC.MEMBERP"; formals = named "A" ∷ named "X" ∷ []; body = (If (call "CONSP" ((var "X") ∷ [])) (If (call "EQUAL" ((var "A") ∷ (call "CAR" ((var "X") ∷ [])) ∷ [])) (Constant T) (call "LOGIC.MEMBERP" ((var "A") ∷ (call "CDR" ((var "X") ∷ [])) ∷ []))) (Constant NIL)) }

abbrev pub logic_uniquep : Function
logic_uniquep = record { name = named "LOGIC.UNIQUEP"; formals = named "X" ∷ []; body = (If (call "CONSP" ((var "X") ∷ [])) (If (call "LOGIC.MEMBERP" ((call "CAR" ((var "X") ∷ [])) ∷ (call "CDR" ((var "X") ∷ [])) ∷ [])) (Constant NIL) (call "LOGIC.UNIQUEP" ((call "CDR" ((var "X") ∷ [])) ∷ []))) (Constant T)) }

abbrev pub logic_lookup : Function
logic_lookup = record { name = named "LOGIC.LOOKUP"; formals = named "A" ∷ named "X" ∷ []; body = (If (call "CONSP" ((var "X") ∷ [])) (If (call "EQUAL" ((var "A") ∷ (call "CAR" ((call "CAR" ((var "X") ∷ [])) ∷ [])) ∷ [])) (call "CAR" ((var "X") ∷ [])) (call "LOGIC.LOOKUP" ((var "A") ∷ (call "CDR" ((var "X") ∷ [])) ∷ []))) (Constant NIL)) }

abbrev pub logic_variablep : Function
logic_variablep = record { name = named "LOGIC.VARIABLEP"; formals = named "X" ∷ []; body = ((call "SYMBOLP" ((var "X") ∷ [])) & (If (call "EQUAL" ((var "X") ∷ (Constant T) ∷ [])) (Constant NIL) (Constant T)) & (If (call "EQUAL" ((var "X") ∷ (Constant NIL) ∷ [])) (Constant NIL) (Constant T))) }

abbrev pub logic_var_listp : Function
logic_var_listp = record { name = named "LOGIC.VAR-LISTP"; formals = named "X" ∷ []; body = (If (call "CONSP" ((var "X") ∷ [])) ((call "LOGIC.VARIABLEP" ((call "CAR" ((var "X") ∷ [])) ∷ [])) & (call "LOGIC.VAR-LISTP" ((call "CDR" ((var "X") ∷ [])) ∷ []))) (call "EQUAL" ((var "X") ∷ (Constant NIL) ∷ []))) }

abbrev pub logic_constantp : Function
logic_constantp = record { name = named "LOGIC.CONSTANTP"; formals = named "X" ∷ []; body = ((call "CONSP" ((var "X") ∷ [])) & (call "EQUAL" ((call "CAR" ((var "X") ∷ [])) ∷ (Constant (symbol "QUOTE")) ∷ [])) & (call "LOGIC.LENP" ((var "X") ∷ (Constant (Natural 2)) ∷ []))) }

abbrev pub logic_const_listp : Function
logic_const_listp = record { name = named "LOGIC.CONST-LISTP"; formals = named "X" ∷ []; body = (If (call "CONSP" ((var "X") ∷ [])) ((call "LOGIC.CONSTANTP" ((call "CAR" ((var "X") ∷ [])) ∷ [])) & (call "LOGIC.CONST-LISTP" ((call "CDR" ((var "X") ∷ [])) ∷ []))) (call "EQUAL" ((var "X") ∷ (Constant NIL) ∷ []))) }

abbrev pub logic_unquote_list : Function
logic_unquote_list = record { name = named "LOGIC.UNQUOTE-LIST"; formals = named "X" ∷ []; body = (If (call "CONSP" ((var "X") ∷ [])) (call "CONS" ((second (call "CAR" ((var "X") ∷ []))) ∷ (call "LOGIC.UNQUOTE-LIST" ((call "CDR" ((var "X") ∷ [])) ∷ [])) ∷ [])) (Constant NIL)) }

abbrev pub logic_flag_closedp : Function
logic_flag_closedp = record { name = named "LOGIC.FLAG-CLOSEDP"; formals = named "FLAG" ∷ named "X" ∷ named "VS" ∷ []; body = (If (call "EQUAL" ((var "FLAG") ∷ (Constant (symbol "TERM")) ∷ [])) (If (call "CONSP" ((var "X") ∷ [])) (If (call "EQUAL" ((call "CAR" ((var "X") ∷ [])) ∷ (Constant (symbol "QUOTE")) ∷ [])) (Constant T) (call "LOGIC.FLAG-CLOSEDP" ((Constant (symbol "LIST")) ∷ (call "CDR" ((var "X") ∷ [])) ∷ (var "VS") ∷ []))) (call "LOGIC.MEMBERP" ((var "X") ∷ (var "VS") ∷ []))) (If (call "CONSP" ((var "X") ∷ [])) ((call "LOGIC.FLAG-CLOSEDP" ((Constant (symbol "TERM")) ∷ (call "CAR" ((var "X") ∷ [])) ∷ (var "VS") ∷ [])) & (call "LOGIC.FLAG-CLOSEDP" ((Constant (symbol "LIST")) ∷ (call "CDR" ((var "X") ∷ [])) ∷ (var "VS") ∷ []))) (Constant T))) }

abbrev pub logic_flag_termp : Function
logic_flag_termp = record { name = named "LOGIC.FLAG-TERMP"; formals = named "FLAG" ∷ named "X" ∷ named "ATBL" ∷ []; body = (If (call "EQUAL" ((var "FLAG") ∷ (Constant (symbol "TERM")) ∷ [])) (If (call "CONSP" ((var "X") ∷ [])) (If (call "EQUAL" ((call "CAR" ((var "X") ∷ [])) ∷ (Constant (symbol "QUOTE")) ∷ [])) (call "LOGIC.CONSTANTP" ((var "X") ∷ [])) (If (call "CONSP" ((call "CAR" ((var "X") ∷ [])) ∷ [])) ((call "LOGIC.LENP" ((call "CAR" ((var "X") ∷ [])) ∷ (Constant (Natural 3)) ∷ [])) & (call "EQUAL" ((first (call "CAR" ((var "X") ∷ []))) ∷ (Constant (symbol "LAMBDA")) ∷ [])) & (call "LOGIC.VAR-LISTP" ((second (call "CAR" ((var "X") ∷ []))) ∷ [])) & (call "LOGIC.UNIQUEP" ((second (call "CAR" ((var "X") ∷ []))) ∷ [])) & (call "LOGIC.FLAG-TERMP" ((Constant (symbol "TERM")) ∷ (third (call "CAR" ((var "X") ∷ []))) ∷ (var "ATBL") ∷ [])) & (call "LOGIC.FLAG-CLOSEDP" ((Constant (symbol "TERM")) ∷ (third (call "CAR" ((var "X") ∷ []))) ∷ (second (call "CAR" ((var "X") ∷ []))) ∷ [])) & (call "EQUAL" ((call "LOGIC.LEN" ((call "CDR" ((var "X") ∷ [])) ∷ [])) ∷ (call "LOGIC.LEN" ((second (call "CAR" ((var "X") ∷ []))) ∷ [])) ∷ [])) & (call "LOGIC.FLAG-TERMP" ((Constant (symbol "LIST")) ∷ (call "CDR" ((var "X") ∷ [])) ∷ (var "ATBL") ∷ []))) (If (Constant T) ((call "SYMBOLP" ((call "CAR" ((var "X") ∷ [])) ∷ [])) & (call "LOGIC.LOOKUP" ((call "CAR" ((var "X") ∷ [])) ∷ (var "ATBL") ∷ [])) & (call "EQUAL" ((call "LOGIC.LEN" ((call "CDR" ((var "X") ∷ [])) ∷ [])) ∷ (call "CDR" ((call "LOGIC.LOOKUP" ((call "CAR" ((var "X") ∷ [])) ∷ (var "ATBL") ∷ [])) ∷ [])) ∷ [])) & (call "LOGIC.FLAG-TERMP" ((Constant (symbol "LIST")) ∷ (call "CDR" ((var "X") ∷ [])) ∷ (var "ATBL") ∷ []))) (Constant NIL)))) (call "LOGIC.VARIABLEP" ((var "X") ∷ []))) (If (call "CONSP" ((var "X") ∷ [])) ((call "LOGIC.FLAG-TERMP" ((Constant (symbol "TERM")) ∷ (call "CAR" ((var "X") ∷ [])) ∷ (var "ATBL") ∷ [])) & (call "LOGIC.FLAG-TERMP" ((Constant (symbol "LIST")) ∷ (call "CDR" ((var "X") ∷ [])) ∷ (var "ATBL") ∷ []))) (call "EQUAL" ((var "X") ∷ (Constant NIL) ∷ [])))) }

abbrev pub logic_termp : Function
logic_termp = record { name = named "LOGIC.TERMP"; formals = named "X" ∷ named "ATBL" ∷ []; body = (call "LOGIC.FLAG-TERMP" ((Constant (symbol "TERM")) ∷ (var "X") ∷ (var "ATBL") ∷ [])) }

abbrev pub logic_formulap : Function
logic_formulap = record { name = named "LOGIC.FORMULAP"; formals = named "X" ∷ named "ATBL" ∷ []; body = (If (call "CONSP" ((var "X") ∷ [])) (If (call "EQUAL" ((call "CAR" ((var "X") ∷ [])) ∷ (Constant (symbol "PEQUAL*")) ∷ [])) ((call "LOGIC.LENP" ((var "X") ∷ (Constant (Natural 3)) ∷ [])) & (call "LOGIC.TERMP" ((second (var "X")) ∷ (var "ATBL") ∷ [])) & (call "LOGIC.TERMP" ((third (var "X")) ∷ (var "ATBL") ∷ []))) (If (call "EQUAL" ((call "CAR" ((var "X") ∷ [])) ∷ (Constant (symbol "PNOT*")) ∷ [])) ((call "LOGIC.LENP" ((var "X") ∷ (Constant (Natural 2)) ∷ [])) & (call "LOGIC.FORMULAP" ((second (var "X")) ∷ (var "ATBL") ∷ []))) (If (call "EQUAL" ((call "CAR" ((var "X") ∷ [])) ∷ (Constant (symbol "POR*")) ∷ [])) ((call "LOGIC.LENP" ((var "X") ∷ (Constant (Natural 3)) ∷ [])) & (call "LOGIC.FORMULAP" ((second (var "X")) ∷ (var "ATBL") ∷ [])) & (call "LOGIC.FORMULAP" ((third (var "X")) ∷ (var "ATBL") ∷ []))) (Constant NIL)))) (Constant NIL)) }

abbrev pub logic_conclusion : Function
logic_conclusion = record { name = named "LOGIC.CONCLUSION"; formals = named "X" ∷ []; body = (second (var "X")) }

abbrev pub logic_conclusions : Function
logic_conclusions = record { name = named "LOGIC.CONCLUSIONS"; formals = named "X" ∷ []; body = (If (call "CONSP" ((var "X") ∷ [])) (call "CONS" ((call "LOGIC.CONCLUSION" ((call "CAR" ((var "X") ∷ [])) ∷ [])) ∷ (call "LOGIC.CONCLUSIONS" ((call "CDR" ((var "X") ∷ [])) ∷ [])) ∷ [])) (Constant NIL)) }

abbrev pub logic_pequal : Function
logic_pequal = record { name = named "LOGIC.PEQUAL"; formals = named "A" ∷ named "B" ∷ []; body = (call "CONS" ((Constant (symbol "PEQUAL*")) ∷ (call "CONS" ((var "A") ∷ (call "CONS" ((var "B") ∷ (Constant NIL) ∷ [])) ∷ [])) ∷ [])) }

abbrev pub logic_pnot : Function
logic_pnot = record { name = named "LOGIC.PNOT"; formals = named "A" ∷ []; body = (call "CONS" ((Constant (symbol "PNOT*")) ∷ (call "CONS" ((var "A") ∷ (Constant NIL) ∷ [])) ∷ [])) }

abbrev pub logic_por : Function
logic_por = record { name = named "LOGIC.POR"; formals = named "A" ∷ named "B" ∷ []; body = (call "CONS" ((Constant (symbol "POR*")) ∷ (call "CONS" ((var "A") ∷ (call "CONS" ((var "B") ∷ (Constant NIL) ∷ [])) ∷ [])) ∷ [])) }

abbrev pub logic_flag_substitute : Function
logic_flag_substitute = record { name = named "LOGIC.FLAG-SUBSTITUTE"; formals = named "FLAG" ∷ named "X" ∷ named "S" ∷ []; body = (If (call "EQUAL" ((var "FLAG") ∷ (Constant (symbol "TERM")) ∷ [])) (If (call "CONSP" ((var "X") ∷ [])) (If (call "EQUAL" ((call "CAR" ((var "X") ∷ [])) ∷ (Constant (symbol "QUOTE")) ∷ [])) (var "X") (call "CONS" ((call "CAR" ((var "X") ∷ [])) ∷ (call "LOGIC.FLAG-SUBSTITUTE" ((Constant (symbol "LIST")) ∷ (call "CDR" ((var "X") ∷ [])) ∷ (var "S") ∷ [])) ∷ []))) (If (call "LOGIC.LOOKUP" ((var "X") ∷ (var "S") ∷ [])) (call "CDR" ((call "LOGIC.LOOKUP" ((var "X") ∷ (var "S") ∷ [])) ∷ [])) (var "X"))) (If (call "CONSP" ((var "X") ∷ [])) (call "CONS" ((call "LOGIC.FLAG-SUBSTITUTE" ((Constant (symbol "TERM")) ∷ (call "CAR" ((var "X") ∷ [])) ∷ (var "S") ∷ [])) ∷ (call "LOGIC.FLAG-SUBSTITUTE" ((Constant (symbol "LIST")) ∷ (call "CDR" ((var "X") ∷ [])) ∷ (var "S") ∷ [])) ∷ [])) (Constant NIL))) }

abbrev pub logic_substitute : Function
logic_substitute = record { name = named "LOGIC.SUBSTITUTE"; formals = named "X" ∷ named "S" ∷ []; body = (call "LOGIC.FLAG-SUBSTITUTE" ((Constant (symbol "TERM")) ∷ (var "X") ∷ (var "S") ∷ [])) }

abbrev pub logic_formula_substitute : Function
logic_formula_substitute = record { name = named "LOGIC.FORMULA-SUBSTITUTE"; formals = named "X" ∷ named "S" ∷ []; body = (If (call "CONSP" ((var "X") ∷ [])) (If (call "EQUAL" ((call "CAR" ((var "X") ∷ [])) ∷ (Constant (symbol "PEQUAL*")) ∷ [])) (call "LOGIC.PEQUAL" ((call "LOGIC.SUBSTITUTE" ((second (var "X")) ∷ (var "S") ∷ [])) ∷ (call "LOGIC.SUBSTITUTE" ((third (var "X")) ∷ (var "S") ∷ [])) ∷ [])) (If (call "EQUAL" ((call "CAR" ((var "X") ∷ [])) ∷ (Constant (symbol "PNOT*")) ∷ [])) (call "LOGIC.PNOT" ((call "LOGIC.FORMULA-SUBSTITUTE" ((second (var "X")) ∷ (var "S") ∷ [])) ∷ [])) (If (call "EQUAL" ((call "CAR" ((var "X") ∷ [])) ∷ (Constant (symbol "POR*")) ∷ [])) (call "LOGIC.POR" ((call "LOGIC.FORMULA-SUBSTITUTE" ((second (var "X")) ∷ (var "S") ∷ [])) ∷ (call "LOGIC.FORMULA-SUBSTITUTE" ((third (var "X")) ∷ (var "S") ∷ [])) ∷ [])) (Constant NIL)))) (Constant NIL)) }

abbrev pub logic_sigmap : Function
logic_sigmap = record { name = named "LOGIC.SIGMAP"; formals = named "X" ∷ named "ATBL" ∷ []; body = (If (call "CONSP" ((var "X") ∷ [])) ((call "CONSP" ((call "CAR" ((var "X") ∷ [])) ∷ [])) & (call "LOGIC.VARIABLEP" ((call "CAR" ((call "CAR" ((var "X") ∷ [])) ∷ [])) ∷ [])) & (call "LOGIC.TERMP" ((call "CDR" ((call "CAR" ((var "X") ∷ [])) ∷ [])) ∷ (var "ATBL") ∷ [])) & (call "LOGIC.SIGMAP" ((call "CDR" ((var "X") ∷ [])) ∷ (var "ATBL") ∷ []))) (call "EQUAL" ((var "X") ∷ (Constant NIL) ∷ []))) }

abbrev pub logic_sigma_listp : Function
logic_sigma_listp = record { name = named "LOGIC.SIGMA-LISTP"; formals = named "X" ∷ named "ATBL" ∷ []; body = (If (call "CONSP" ((var "X") ∷ [])) ((call "LOGIC.SIGMAP" ((call "CAR" ((var "X") ∷ [])) ∷ (var "ATBL") ∷ [])) & (call "LOGIC.SIGMA-LISTP" ((call "CDR" ((var "X") ∷ [])) ∷ (var "ATBL") ∷ []))) (call "EQUAL" ((var "X") ∷ (Constant NIL) ∷ []))) }

abbrev pub logic_sigma_list_listp : Function
logic_sigma_list_listp = record { name = named "LOGIC.SIGMA-LIST-LISTP"; formals = named "X" ∷ named "ATBL" ∷ []; body = (If (call "CONSP" ((var "X") ∷ [])) ((call "LOGIC.SIGMA-LISTP" ((call "CAR" ((var "X") ∷ [])) ∷ (var "ATBL") ∷ [])) & (call "LOGIC.SIGMA-LIST-LISTP" ((call "CDR" ((var "X") ∷ [])) ∷ (var "ATBL") ∷ []))) (call "EQUAL" ((var "X") ∷ (Constant NIL) ∷ []))) }

abbrev pub logic_pair : Function
logic_pair = record { name = named "LOGIC.PAIR"; formals = named "X" ∷ named "Y" ∷ []; body = (If (call "CONSP" ((var "X") ∷ [])) (call "CONS" ((call "CONS" ((call "CAR" ((var "X") ∷ [])) ∷ (call "CAR" ((var "Y") ∷ [])) ∷ [])) ∷ (call "LOGIC.PAIR" ((call "CDR" ((var "X") ∷ [])) ∷ (call "CDR" ((var "Y") ∷ [])) ∷ [])) ∷ [])) (Constant NIL)) }
