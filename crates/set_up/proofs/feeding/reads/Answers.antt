use Rattle.std.proofs.Common.{sym, arith}
use Rattle.set_up.proofs.Reading.{some_reads, none_reads}
use Rattle.set_up.proofs.feeding.reads.Goals as goal

pub returns-then-reads_at : goal.returns-then-reads_at
returns-then-reads_at c = sym (some_reads c.args.wiring.now c.args.from c.args.unit c.args.mask c.loop-port.port 8 c.loop-port-test.true (c.reads_at.ensures.0 c.if-reads_at.true))

pub returns : goal.returns
returns c = sym (none_reads c.args.wiring.now c.args.from c.args.unit c.args.mask 8 (λ i lt. c.loop-port.invariant i (omega arith)))
