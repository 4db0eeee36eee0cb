use Rattle.std.proofs.Common.{◌∙◌, List, length, sym, subst}
use Rattle.nm_model.specs.Walks.{Entry}
use Rattle.nm_walks.specs.AddedLooks.{AddsLooks}
use Rattle.nm_walks.specs.Bounds.{reach}
use Rattle.nm_walks.proofs.GoingOn.{goes_then, only_then}
use Rattle.nm_calls.specs.PlainWalks.{most_looks}
use Rattle.nm_calls.proofs.ManyValues.{all_walked, all_walked_in_all, were_mapped}
use Rattle.nm_calls.proofs.map_many.get_many_pinned.Goals as goal

pub read_values-requires-clause-walked : goal.read_values-requires-clause-walked
read_values-requires-clause-walked c =
    let n = length c.args.pass.now.view.log in
    let p = c.walk_all.new.pass in
    let queries = c.walk_all.new.queries in
    all_walked_in_all n p queries
    (all_walked n p queries c.walk_all.ensures.under_way (c.walk_all.ensures.ended c.if-not-walk_all.false))

pub returns : goal.returns
returns c =
    let o = c.args.pass.now in
    let p = c.walk_all.new.pass in
    let q = c.read_values.new.pass in
    let walked = c.walk_all.ensures in
    let read = c.read_values.ensures in
    let on = goes_then o p q walked.on read.on in
    let n = length o.view.log in
    let answers = read.answers n
    (all_walked n p c.walk_all.new.queries walked.under_way (walked.ended c.if-not-walk_all.false)) in
    record {
      on = on;
      only = only_then o p q walked.only read.only;
      looks = subst (λ (l : List Entry). AddsLooks (most_looks (reach c.args.shared.now.layout)
          (length c.args.queries.now)) o.view.log l) (sym read.log) walked.looks;
      keys = read.keys ∙ walked.keys;
      moment = were_mapped o q c.know_run.ensures.seen c.know_run-2.ensures.fits on.same on.past
          c.know_run-2.ensures.seen c.read_values.new.queries answers;
      busy = tt;
      missed = tt;
    }
