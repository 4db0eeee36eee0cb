use Rattle.std.proofs.Common.{sym, ◌∙◌, arith}
use Rattle.nm_steps.proofs.Rows.{all_shown, shown_by_bits}
use Rattle.nm_steps.proofs.pool_steps.taken_in_row.Goals as goal

pub returns-then-found-eq0 : goal.returns-then-found-eq0
returns-then-found-eq0 c = sym (all_shown c.args.found c.args.from c.args.most (grind arith))

pub returns : goal.returns
returns c = c.min.ensures ∙ sym (shown_by_bits c.args.found c.args.from c.args.most c.requires.low c.requires.row
    c.ranges.found.fits)
