use mathlib.Core.Path.{refl, sym}
use native.Mathlib.Omega.{arith}
use Rattle.refusals.proofs.Chains.{chain_first}
use Rattle.file_line.specs.Read.{rooms, line_of}
use Rattle.file_line.proofs.Judging.{asked_refused, stored_took, stored_rooms, refused_good}
use Rattle.file_line.proofs.Accept.{asked_accepted}
use Rattle.file_line.proofs.Meaning.{judged_number, refused_line}
use Rattle.file_line.proofs.read_line.Goals as goal

pub returns-in_err-judge-clause-value : goal.returns-in_err-judge-clause-value
unfolding line_of
returns-in_err-judge-clause-value c =
    let x = (rooms c.args.caps.now c.args.marks.now c.args.initial.now c.args.pre.now c.args.post.now c.args.word.now) in
    chain_first _ _ _ _ c.from_residual.ensures.1 (sym (asked_refused c.args.s c.args.d.now x _ c.in_err-judge.ensures _ refl).0)

pub returns-in_err-judge-clause-lent : goal.returns-in_err-judge-clause-lent
returns-in_err-judge-clause-lent c =
    let x = (rooms c.args.caps.now c.args.marks.now c.args.initial.now c.args.pre.now c.args.post.now c.args.word.now) in
    let a = asked_refused c.args.s c.args.d.now x _ c.in_err-judge.ensures _ refl in
    sym (rw a.1 at (refused_line c.args.s c.args.d.now x _ _ a.0).1)

pub returns-in_err-judge-clause-good : goal.returns-in_err-judge-clause-good
returns-in_err-judge-clause-good c =
    let x = (rooms c.args.caps.now c.args.marks.now c.args.initial.now c.args.pre.now c.args.post.now c.args.word.now) in
    let a = asked_refused c.args.s c.args.d.now x _ c.in_err-judge.ensures _ refl in
    refused_good _ _ c.from_residual.ensures.1 (judged_number c.args.s c.args.d.now x _ _ a.0).0

pub store-requires : goal.store-requires
store-requires c = let p = c.requires in (p.0, asked_accepted _ _ _ (sym c.in_ok-judge.ensures), p.1)

pub take_line-requires : goal.take_line-requires
take_line-requires c =
    let p = c.requires in (
      p.0,
      asked_accepted _ _ _ (sym c.in_ok-judge.ensures),
      record {
        caps = omega (arith, p.1.caps, c.store.auto.caps);
        marks = omega (arith, p.1.marks, c.store.auto.marks);
        pre = omega (arith, p.1.pre, c.store.auto.pre);
        post = omega (arith, p.1.post, c.store.auto.post);
      },
    )

pub returns-clause-value : goal.returns-clause-value
returns-clause-value c =
    let x = (rooms c.args.caps.now c.args.marks.now c.args.initial.now c.args.pre.now c.args.post.now c.args.word.now) in
    stored_took c.args.s c.args.d.now x _ c.in_ok-judge.ensures refl _ c.store.ensures _ c.take_line.ensures.value

pub returns-clause-lent : goal.returns-clause-lent
returns-clause-lent c =
    let x = (rooms c.args.caps.now c.args.marks.now c.args.initial.now c.args.pre.now c.args.post.now c.args.word.now) in
    stored_rooms c.args.s c.args.d.now x _ c.in_ok-judge.ensures refl _ c.store.ensures
