-- Made by tools/uniform from proofs.txt, not by hand: e2e45beb16077a57
use mathlib.Core.Path.{refl}
use native.Mathlib.Omega.{arith}
use Rattle.faults_chaos.specs.Kinds.{kind_many, kind_few, kind_rest}
use Rattle.faults_chaos.proofs.Span.fault_of_kind.Goals.{in_default-via-in-2+else-multi, in_default-via-in-3+else-multi-2, in_default-via-in_default-1}
use borrow.Author.Rules.{rules}
use Rattle.faults_chaos.proofs.Span.fault_of_kind.Goals as goal

pub returns-in-2 : goal.returns-in-2
returns-in-2 c = record { result_value = kind_many _ _ _ _ _ _ _ 2 _ refl c.in-2.is c.if-multi.true c.partition.ensures.result_value; draws_bound = search rules }

pub returns-in-3 : goal.returns-in-3
returns-in-3 c = record { result_value = kind_many _ _ _ _ _ _ _ 3 _ refl c.in-3.is c.if-multi-2.true c.block_link.ensures.result_value; draws_bound = search rules }

pub returns-in_default : goal.returns-in_default
returns-in_default c = record { result_value = elim c.in_default.branch [ in_default-via-in-2+else-multi w ↦ kind_few _ _ _ _ _ _ _ 2 _ refl w.in-2.is w.if-multi.false c.slower.ensures.0 | in_default-via-in-3+else-multi-2 w ↦ kind_few _ _ _ _ _ _ _ 3 _ refl w.in-3.is w.if-multi-2.false c.slower.ensures.0 | in_default-via-in_default-1 w ↦ kind_rest _ _ _ _ _ _ _ (omega arith) c.slower.ensures.0 ]; draws_bound = search rules }
