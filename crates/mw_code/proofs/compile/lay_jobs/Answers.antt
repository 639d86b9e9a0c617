-- The last job is laid out, and what is left is asked of the code that is there then.
use Rattle.std.proofs.Common.{◌≡◌, ◌≤◌, List, [], ◌∷◌, ◌++◌, length, length-append, sym, ap, ◌∙◌, subst, arith, rules}
use Rattle.mw_heap.specs.Variants.{profile_of}
use Rattle.mw_code.specs.declared.job.Job.{Job}
use Rattle.mw_code.specs.declared.job.Job.TheVariants.{Value as TheValue}
use Rattle.mw_code.specs.Jobs.{Extends}
use Rattle.mw_code.specs.Loads.{load}
use Rattle.mw_code.specs.Reused.{AreParts, BeginsPart}
use Rattle.mw_code.proofs.Forms.{extends-same}
use Rattle.mw_code.proofs.Laying.{AreLaying, laying-starts, last-fits, laying-goes, laying-ends, laid-extends, load-falls, begins-part}
use Rattle.mw_code.proofs.PartLemmas.{parts-none, parts-extend}
use Rattle.mw_code.proofs.compile.lay_jobs.Goals as goal

pub loop-job-init : goal.loop-job-init
loop-job-init c =
    let P = profile_of c.args.context.now.profile in
    let code = c.args.code.now.items in
    let first = c.in_ok-push.ensures.items ∙ ap (λ (l : List Job). l ++ TheValue c.args.task ∷ []) c.new-jobs.ensures.items in
    (extends-same code, subst (λ js. AreLaying P c.args.context.now.heap.now.objects c.args.context.now.signature.now code code js c.args.task) (sym first) (laying-starts P c.args.context.now.heap.now.objects c.args.context.now.signature.now c.args.task code), c.requires.places, parts-none P c.args.context.now.heap.now.objects c.args.context.now.signature.now (length code) code c.args.parts.now.laid.entries c.requires.parts, omega arith)

pub returns-clause-laid : goal.returns-clause-laid
returns-clause-laid c =
    let P = profile_of c.args.context.now.profile in
    let none : c.loop-job.jobs.items ≡ [] = search rules in
    laying-ends P c.args.context.now.heap.now.objects c.args.context.now.signature.now c.args.task c.args.code.now.items c.loop-job.code.items (subst (λ js. AreLaying P c.args.context.now.heap.now.objects c.args.context.now.signature.now c.args.code.now.items c.loop-job.code.items js c.args.task) none c.loop-job.invariant.1)

pub lay_job-requires : goal.lay_job-requires
lay_job-requires c =
    let P = profile_of c.args.context.now.profile in
    let a = subst (λ js. AreLaying P c.args.context.now.heap.now.objects c.args.context.now.signature.now c.args.code.now.items c.loop-job.code.items js c.args.task) c.in-Some.ensures.items c.loop-job.invariant.1 in
    record { job = last-fits P c.args.context.now.heap.now.objects c.args.context.now.signature.now c.args.task c.args.code.now.items c.loop-job.code.items c.pop.new.self.items c.in-Some.job c.requires.task a; places = c.loop-job.invariant.2 }

pub loop-job-preserved : goal.loop-job-preserved
loop-job-preserved c =
    let P = profile_of c.args.context.now.profile in
    let os = c.args.context.now.heap.now.objects in
    let S = c.args.context.now.signature.now in
    let old = c.args.code.now.items in
    let now = c.loop-job.code.items in
    let jobs = c.lay_job.new.jobs.items in
    let a = subst (λ js. AreLaying P os S old now js c.args.task) c.in-Some.ensures.items c.loop-job.invariant.1 in
    let n : length now ≡ c.in_ok-place.place = search rules in
    let rest = c.pop.new.self.items in
    let p = c.in_ok-piece.ensures.piece (length old) now n c.loop-job.invariant.3 in
    let begins = begins-part P os S c.args.task old now rest c.in-Some.job c.requires.task a in
    let low : length old ≤ c.in_ok-place.place = omega (arith, n, ap length c.loop-job.invariant.0.1, length-append old c.loop-job.invariant.0.0) in
    let noted = c.in_ok-note.ensures P os S (length old) now (subst (λ k. BeginsPart P os S now k c.in-Some.job) n begins) low c.loop-job.invariant.3 in
    let laid = sym c.in_ok-lay.ensures.laid in
    let grown = (p c.requires.task.0 c.requires.task.1).extends in (
      subst (Extends old) laid (laid-extends P os S c.args.task (length old) old now c.pop.new.self.items jobs c.in-Some.job c.in_ok-piece.piece c.requires.task c.loop-job.invariant.0 p),
      subst (λ code. AreLaying P os S old code jobs c.args.task) laid (laying-goes P os S c.args.task old now c.pop.new.self.items jobs c.in-Some.job c.in_ok-piece.piece a p),
      c.in_ok-piece.ensures.places,
      subst (λ code. AreParts P os S (length old) code c.note.new.self.laid.entries) laid (parts-extend P os S (length old) now _ c.note.new.self.laid.entries grown noted),
      search rules,
    )

pub returns-then-len-had-clause-extends : goal.returns-then-len-had-clause-extends
returns-then-len-had-clause-extends c =
    let P = profile_of c.args.context.now.profile in
    let os = c.args.context.now.heap.now.objects in
    let S = c.args.context.now.signature.now in
    let old = c.args.code.now.items in
    let now = c.loop-job.code.items in
    let n : length now ≡ c.in_ok-place.place = search rules in
    let p = c.in_ok-piece.ensures.piece (length old) now n c.loop-job.invariant.3 in
    subst (Extends old) (sym c.in_ok-lay.ensures.laid) (laid-extends P os S c.args.task (length old) old now c.pop.new.self.items c.lay_job.new.jobs.items c.in-Some.job c.in_ok-piece.piece c.requires.task c.loop-job.invariant.0 p)

pub loop-job-smaller : goal.loop-job-smaller
loop-job-smaller c =
    let P = profile_of c.args.context.now.profile in
    let os = c.args.context.now.heap.now.objects in
    let S = c.args.context.now.signature.now in
    let old = c.args.code.now.items in
    let now = c.loop-job.code.items in
    let rest = c.pop.new.self.items in
    let a = subst (λ js. AreLaying P os S old now js c.args.task) c.in-Some.ensures.items c.loop-job.invariant.1 in
    let n : length now ≡ c.in_ok-place.place = search rules in
    let less = load-falls P os S c.args.task (length old) now rest c.lay_job.new.jobs.items c.in-Some.job c.in_ok-piece.piece c.requires.task (last-fits P os S c.args.task old now rest c.in-Some.job c.requires.task a) (c.in_ok-piece.ensures.piece (length old) now n c.loop-job.invariant.3) in
    let before = ap (load os) c.in-Some.ensures.items in
    omega (arith, less, before)
