-- Each word with its members makes its event, and another word makes none.
use Rattle.std.proofs.Common.{sym, ap₂}
use Rattle.mw_model.specs.Terms.Object.{Pair}
use Rattle.mw_heap.specs.Objects.{object_at}
use Rattle.mw_heap.specs.Words.{word_object}
use Rattle.mw_theory.proofs.EventWords.{no_members_of}
use Rattle.mw_theory.proofs.event.event_with.Goals as goal

pub returns-in_ok-m-in-Verify : goal.returns-in_ok-m-in-Verify
returns-in_ok-m-in-Verify c = let e = c.in_ok-m-in-Verify.ensures in (sym (ap₂ (λ w x. Pair (word_object w) x) c.in-Verify.is e.0), (e.1, e.2, e.3))

pub returns-in_ok-m-in-Define : goal.returns-in_ok-m-in-Define
returns-in_ok-m-in-Define c = let e = c.in_ok-m-in-Define.ensures in (sym (ap₂ (λ w x. Pair (word_object w) x) c.in-Define.is e.0), (e.1, e.2, e.3, e.4, e.5))

pub returns-in_ok-m-in-Skolem : goal.returns-in_ok-m-in-Skolem
returns-in_ok-m-in-Skolem c = let e = c.in_ok-m-in-Skolem.ensures in (sym (ap₂ (λ w x. Pair (word_object w) x) c.in-Skolem.is e.0), (e.1, e.2, e.3, e.4))

pub returns-in_ok-m-in-DefineAll : goal.returns-in_ok-m-in-DefineAll
returns-in_ok-m-in-DefineAll c = let e = c.in_ok-m-in-DefineAll.ensures in (sym (ap₂ (λ w x. Pair (word_object w) x) c.in-DefineAll.is e.0), (e.1, e.2))

pub returns-in_ok-one_member-in-Switch : goal.returns-in_ok-one_member-in-Switch
returns-in_ok-one_member-in-Switch c = let e = c.in_ok-one_member-in-Switch.ensures in (sym (ap₂ (λ w x. Pair (word_object w) x) c.in-Switch.is e.0), e.1)

pub returns-in_ok-one_member-in-Eval : goal.returns-in_ok-one_member-in-Eval
returns-in_ok-one_member-in-Eval c = let e = c.in_ok-one_member-in-Eval.ensures in (sym (ap₂ (λ w x. Pair (word_object w) x) c.in-Eval.is e.0), e.1)

pub returns-in_ok-one_member-in-Print : goal.returns-in_ok-one_member-in-Print
returns-in_ok-one_member-in-Print c = let e = c.in_ok-one_member-in-Print.ensures in (sym (ap₂ (λ w x. Pair (word_object w) x) c.in-Print.is e.0), e.1)

pub returns-in_ok-one_member-in-Profile : goal.returns-in_ok-one_member-in-Profile
returns-in_ok-one_member-in-Profile c = let e = c.in_ok-one_member-in-Profile.ensures in (sym (ap₂ (λ w x. Pair (word_object w) x) c.in-Profile.is e.0), e.1)

pub returns-in_default : goal.returns-in_default
returns-in_default c =
    let d = c.in_default in
    no_members_of c.args.word (object_at c.args.heap.now.objects c.args.members) d.not-Verify d.not-Define d.not-Skolem d.not-Switch d.not-Eval d.not-Print d.not-DefineAll d.not-Profile
