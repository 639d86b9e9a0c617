-- What the axioms on naturals say of values.
use Rattle.std.proofs.Common.{[], ◌∷◌, arith}
use Rattle.mw_model.specs.Terms.Object.{Object, named}
use Rattle.mw_model.specs.Values.Primitive.{Profile, Two}
use Rattle.mw_model.specs.Values.Value.{Environment}
use Rattle.mw_model.specs.Proofs.Axioms.{axiom_27, axiom_28, axiom_29, axiom_30, axiom_31, axiom_32, axiom_33, axiom_34, axiom_35, axiom_36, axiom_37, axiom_38, axiom_39, axiom_40, axiom_41, axiom_42, axiom_43, axiom_44, axiom_45, axiom_46, axiom_47, axiom_48, axiom_49, axiom_50, axiom_51, axiom_52, axiom_54, axiom_55, axiom_56, axiom_57, axiom_58, axiom_59, axiom_60}
use Rattle.mw_truth.proofs.PrimitiveValues.{Says}
use Rattle.mw_truth.proofs.Tells.{tells}

abbrev pub numbers : Object → Object → Object → Environment
numbers a b c = (named "A", a) ∷ (named "B", b) ∷ (named "C", c) ∷ []

pub axiom_27-says : (P : Profile) (a b c : Object) → Says P (numbers a b c) axiom_27
axiom_27-says P a b c = grind (arith, tells)

pub axiom_28-says : (P : Profile) (a b c : Object) → Says P (numbers a b c) axiom_28
axiom_28-says P a b c = grind (arith, tells)

pub axiom_29-says : (P : Profile) (a b c : Object) → Says P (numbers a b c) axiom_29
axiom_29-says P a b c = grind (arith, tells)

pub axiom_30-says : (P : Profile) (a b c : Object) → Says P (numbers a b c) axiom_30
axiom_30-says P a b c = grind (arith, tells)

pub axiom_31-says : (P : Profile) (a b c : Object) → Says P (numbers a b c) axiom_31
axiom_31-says P a b c = grind (arith, tells)

pub axiom_32-says : (P : Profile) (a b c : Object) → Says P (numbers a b c) axiom_32
axiom_32-says P a b c = grind (arith, tells)

pub axiom_33-says : (P : Profile) (a b c : Object) → Says P (numbers a b c) axiom_33
axiom_33-says P a b c = grind (arith, tells)

pub axiom_34-says : (P : Profile) (a b c : Object) → Says P (numbers a b c) axiom_34
axiom_34-says P a b c = grind (arith, tells)

pub axiom_35-says : (P : Profile) (a b c : Object) → Says P (numbers a b c) axiom_35
axiom_35-says P a b c = grind (arith, tells)

pub axiom_36-says : (P : Profile) (a b c : Object) → Says P (numbers a b c) axiom_36
axiom_36-says P a b c = grind (arith, tells)

pub axiom_37-says : (P : Profile) (a b c : Object) → Says P (numbers a b c) axiom_37
axiom_37-says P a b c = grind (arith, tells)

pub axiom_38-says : (P : Profile) (a b c : Object) → Says P (numbers a b c) axiom_38
axiom_38-says P a b c = grind (arith, tells)

pub axiom_39-says : (P : Profile) (a b c : Object) → Says P (numbers a b c) axiom_39
axiom_39-says P a b c = grind (arith, tells)

pub axiom_40-says : (P : Profile) (a b c : Object) → Says P (numbers a b c) axiom_40
axiom_40-says P a b c = grind (arith, tells)

pub axiom_41-says : (P : Profile) (a b c : Object) → Says P (numbers a b c) axiom_41
axiom_41-says P a b c = grind (arith, tells)

pub axiom_42-says : (P : Profile) (a b c : Object) → Says P (numbers a b c) axiom_42
axiom_42-says P a b c = grind (arith, tells)

pub axiom_43-says : (P : Profile) (a b c : Object) → Says P (numbers a b c) axiom_43
axiom_43-says P a b c = grind (arith, tells)

pub axiom_44-says : (P : Profile) (a b c : Object) → Says P (numbers a b c) axiom_44
axiom_44-says P a b c = grind (arith, tells)

pub axiom_45-says : (P : Profile) (a b c : Object) → Says P (numbers a b c) axiom_45
axiom_45-says P a b c = grind (arith, tells)

pub axiom_46-says : (P : Profile) (a b c : Object) → Says P (numbers a b c) axiom_46
axiom_46-says P a b c = grind (arith, tells)

pub axiom_47-says : (P : Profile) (a b c : Object) → Says P (numbers a b c) axiom_47
axiom_47-says P a b c = grind (arith, tells)

pub axiom_48-says : (P : Profile) (a b c : Object) → Says P (numbers a b c) axiom_48
axiom_48-says P a b c = grind (arith, tells)

pub axiom_49-says : (P : Profile) (a b c : Object) → Says P (numbers a b c) axiom_49
axiom_49-says P a b c = grind (arith, tells)

pub axiom_50-says : (P : Profile) (a b c : Object) → Says P (numbers a b c) axiom_50
axiom_50-says P a b c = grind (arith, tells)

pub axiom_51-says : (P : Profile) (a b c : Object) → Says P (numbers a b c) axiom_51
axiom_51-says P a b c = grind (arith, tells)

pub axiom_52-says : (P : Profile) (a b c : Object) → Says P (numbers a b c) axiom_52
axiom_52-says P a b c = grind (arith, tells)

-- the product, in the profile that has one
pub axiom_54-says : (a b c : Object) → Says Two (numbers a b c) axiom_54
axiom_54-says a b c = grind (arith, tells)

pub axiom_55-says : (a b c : Object) → Says Two (numbers a b c) axiom_55
axiom_55-says a b c = grind (arith, tells)

pub axiom_56-says : (a b c : Object) → Says Two (numbers a b c) axiom_56
axiom_56-says a b c = grind (arith, tells)

pub axiom_57-says : (a b c : Object) → Says Two (numbers a b c) axiom_57
axiom_57-says a b c = grind (arith, tells)

pub axiom_58-says : (a b c : Object) → Says Two (numbers a b c) axiom_58
axiom_58-says a b c = grind (arith, tells)

pub axiom_59-says : (a b c : Object) → Says Two (numbers a b c) axiom_59
axiom_59-says a b c = grind (arith, tells)

pub axiom_60-says : (a b c : Object) → Says Two (numbers a b c) axiom_60
axiom_60-says a b c = grind (arith, tells)
