use borrow.Author.Rules.{rules}
use native.Mathlib.Omega.{arith}
use mathlib.Core.Path.{sym, ◌∙◌}
use Rattle.refusals.proofs.Chains.{chain_first, chain_next}
use Rattle.file_line.specs.Walk.{asked_of}
use Rattle.file_line.proofs.Turns.{rule_says}
use Rattle.file_line.proofs.Order.{formed_of_lem, formed_01, formed_03, formed_07}
use Rattle.file_line.proofs.Judging.{passed, judge_01, judge_03, judge_05, judge_07, judge_rest}
use Rattle.file_line.proofs.judge.Goals as goal

pub returns-in_err-refuse : goal.returns-in_err-refuse
unfolding asked_of
returns-in_err-refuse c = chain_first _ _ _ _ c.from_residual.ensures.1 (rw c.rule.ensures at c.in_err-refuse.ensures)

pub is_formed-requires : goal.is_formed-requires
is_formed-requires c = (c.requires.0, (rule_says _ (passed _ _ _ _ (rw c.rule.ensures at c.in_ok-refuse.ensures))).0)

pub returns-in_err-refuse-2 : goal.returns-in_err-refuse-2
unfolding asked_of
returns-in_err-refuse-2 c = chain_next _ _ _ _ (rw c.rule.ensures at c.in_ok-refuse.ensures) (chain_first _ _ _ _ c.from_residual-in_err-refuse-2.ensures.1 (rw c.is_formed.ensures at c.in_err-refuse-2.ensures))

pub byte_at-kind-requires : goal.byte_at-kind-requires
byte_at-kind-requires c = let z = rule_says _ (passed _ _ _ _ (rw c.rule.ensures at c.in_ok-refuse.ensures)) in omega (arith, z.0)

pub counts_fault-requires : goal.counts_fault-requires
counts_fault-requires c = (formed_01 _ _ (formed_of_lem _ _ (passed _ _ _ _ (rw c.is_formed.ensures at c.in_ok-refuse-2.ensures))) (sym c.byte_at-kind.ensures ∙ c.in-1.is)).1

pub tokens_fault-requires : goal.tokens_fault-requires
tokens_fault-requires c = (c.requires.0.places, (formed_03 _ _ (formed_of_lem _ _ (passed _ _ _ _ (rw c.is_formed.ensures at c.in_ok-refuse-2.ensures))) (sym c.byte_at-kind.ensures ∙ c.in-3.is)).1, c.requires.1)

pub letters_fault-requires : goal.letters_fault-requires
letters_fault-requires c = (c.requires.0.letters, (rule_says _ (passed _ _ _ _ (rw c.rule.ensures at c.in_ok-refuse.ensures))).0)

pub weights_fault-requires : goal.weights_fault-requires
weights_fault-requires c = (c.requires.0.places, (formed_07 _ _ (formed_of_lem _ _ (passed _ _ _ _ (rw c.is_formed.ensures at c.in_ok-refuse-2.ensures))) (sym c.byte_at-kind.ensures ∙ c.in-7.is)).1)

pub returns-in-1 : goal.returns-in-1
returns-in-1 c = judge_01 _ _ _ (passed _ _ _ _ (rw c.rule.ensures at c.in_ok-refuse.ensures)) (passed _ _ _ _ (rw c.is_formed.ensures at c.in_ok-refuse-2.ensures)) _ (sym c.byte_at-kind.ensures ∙ c.in-1.is) c.counts_fault.ensures

pub returns-in-3 : goal.returns-in-3
returns-in-3 c = judge_03 _ _ _ (passed _ _ _ _ (rw c.rule.ensures at c.in_ok-refuse.ensures)) (passed _ _ _ _ (rw c.is_formed.ensures at c.in_ok-refuse-2.ensures)) _ (sym c.byte_at-kind.ensures ∙ c.in-3.is) c.tokens_fault.ensures

pub returns-in-5 : goal.returns-in-5
returns-in-5 c = judge_05 _ _ _ (passed _ _ _ _ (rw c.rule.ensures at c.in_ok-refuse.ensures)) (passed _ _ _ _ (rw c.is_formed.ensures at c.in_ok-refuse-2.ensures)) _ (sym c.byte_at-kind.ensures ∙ c.in-5.is) c.letters_fault.ensures

pub returns-in-7 : goal.returns-in-7
returns-in-7 c = judge_07 _ _ _ (passed _ _ _ _ (rw c.rule.ensures at c.in_ok-refuse.ensures)) (passed _ _ _ _ (rw c.is_formed.ensures at c.in_ok-refuse-2.ensures)) _ (sym c.byte_at-kind.ensures ∙ c.in-7.is) c.weights_fault.ensures

pub returns-in_default : goal.returns-in_default
returns-in_default c = let e = sym c.byte_at-kind.ensures in judge_rest _ _ _ (passed _ _ _ _ (rw c.rule.ensures at c.in_ok-refuse.ensures)) (passed _ _ _ _ (rw c.is_formed.ensures at c.in_ok-refuse-2.ensures)) (search rules) (search rules) (search rules) (search rules)
