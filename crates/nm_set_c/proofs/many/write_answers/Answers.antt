use Rattle.std.proofs.Common.{rules, ◌≡◌, ◌∙◌, List, [], ◌∷◌, ◌++◌, map, take, sym, ap}
use Rattle.std.specs.Prelude.{slice_index_or}
use Rattle.std.proofs.lemmas.List.{take_more_set, map_more}
use Rattle.nm_set_c.proofs.many.write_answers.Goals as goal

pub loop-index-preserved : goal.loop-index-preserved
loop-index-preserved g c =
    let written = g.A.Asking.written in
    let qs = c.args.queries.now in
    let i = c.loop-index.index in
    let q = c.index-queries-index.result in
    let x = c.answered.result in
    let at : q ≡ slice_index_or qs i q = search rules in
    record {
      written = take_more_set c.loop-index.lookups i x (search rules)
          ∙ (ap (λ (ls : List g.row.A.Denot). ls ++ x ∷ []) c.loop-index.invariant.written
          ∙ (ap (λ (y : g.row.A.Denot). map written (take i qs) ++ y ∷ []) (c.answered.ensures ∙ ap written at)
          ∙ sym (map_more written qs i q (search rules))));
      count = search rules;
    }
