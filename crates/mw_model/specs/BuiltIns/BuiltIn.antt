-- The 54 built-in definitions of a profile, each a block of one.
use Rattle.std.specs.Prelude.{List, [], ◌∷◌}
use Rattle.mw_model.specs.Values.Primitive.{Profile}
use Rattle.mw_model.specs.Values.Definition.{Function, Block, Functions, Definitions, definitions}
use Rattle.mw_model.specs.BuiltIns.BuiltInTerms.{rank, ord_less, ordp, logic_listp, logic_len, logic_lenp, logic_memberp, logic_uniquep, logic_lookup, logic_variablep, logic_var_listp, logic_constantp, logic_const_listp, logic_unquote_list, logic_flag_closedp, logic_flag_termp, logic_termp, logic_formulap, logic_conclusion, logic_conclusions, logic_pequal, logic_pnot, logic_por, logic_flag_substitute, logic_substitute, logic_formula_substitute, logic_sigmap, logic_sigma_listp, logic_sigma_list_listp, logic_pair}
use Rattle.mw_model.specs.BuiltIns.BuiltInRules.{logic_disjoin, logic_schema_okp, logic_expansion_okp, logic_contraction_okp, logic_associativity_okp, logic_cut_okp, logic_instantiation_okp, logic_last_disjunct, logic_feq, logic_functional_equality_okp, logic_beta_reduction_okp, logic_primitivep, logic_apply, logic_base_eval_okp, logic_ind_hyps}
use Rattle.mw_model.specs.BuiltIns.BuiltInProofs.{logic_ind_steps, logic_ind_dec, logic_ind_decs, logic_induction_okp, logic_step_okp, logic_flag_proofp, logic_proofp, logic_provable_witness, logic_provablep}

abbrev pub block_of : Function → Block
block_of h = Functions (h ∷ [])

-- newest first
abbrev pub built_in : Profile → List Block
built_in P =
    block_of logic_provablep ∷ logic_provable_witness ∷ block_of logic_proofp ∷ block_of logic_flag_proofp ∷ block_of logic_step_okp ∷ block_of logic_induction_okp ∷ block_of logic_ind_decs ∷ block_of logic_ind_dec ∷ block_of logic_ind_steps ∷ block_of logic_ind_hyps ∷ block_of logic_base_eval_okp ∷ block_of (logic_apply P) ∷ block_of (logic_primitivep P) ∷ block_of logic_beta_reduction_okp ∷ block_of logic_functional_equality_okp ∷ block_of logic_feq ∷ block_of logic_last_disjunct ∷ block_of logic_instantiation_okp ∷ block_of logic_cut_okp ∷ block_of logic_associativity_okp ∷ block_of logic_contraction_okp ∷ block_of logic_expansion_okp ∷ block_of logic_schema_okp ∷ block_of logic_disjoin ∷ block_of logic_pair ∷ block_of logic_sigma_list_listp ∷ block_of logic_sigma_listp ∷ block_of logic_sigmap ∷ block_of logic_formula_substitute ∷ block_of logic_substitute ∷ block_of logic_flag_substitute ∷ block_of logic_por ∷ block_of logic_pnot ∷ block_of logic_pequal ∷ block_of logic_conclusions ∷ block_of logic_conclusion ∷ block_of logic_formulap ∷ block_of logic_termp ∷ block_of logic_flag_termp ∷ block_of logic_flag_closedp ∷ block_of logic_unquote_list ∷ block_of logic_const_listp ∷ block_of logic_constantp ∷ block_of logic_var_listp ∷ block_of logic_variablep ∷ block_of logic_lookup ∷ block_of logic_uniquep ∷ block_of logic_memberp ∷ block_of logic_lenp ∷ block_of logic_len ∷ block_of logic_listp ∷ block_of ordp ∷ block_of ord_less ∷ block_of rank ∷ []

abbrev pub built_in_definitions : Profile → Definitions
built_in_definitions P = definitions P (built_in P)
