use Rattle.std.proofs.Common.{◌≡◌, ◌∙◌, ◌<◌, ◌⊎◌, ◌++◌, ◌∷◌, [], ℕ, Bool, List, false, get_or, sym, ap, subst, inl, inr, ⊎_elim, arith}
use Rattle.std.specs.Prelude.{Option}
use Rattle.core.specs.Mem.Slots.{slots_items, slots_filled, slots_len}
use Rattle.atomic_table.specs.Table.{Final}
use Rattle.nm_lending.specs.Visits.{Lent}
use Rattle.nm_lending.specs.Views.{LendingView}
use Rattle.nm_lending.proofs.Moves.{sat_there, one_more, one_longer, gone_next, left_next}
use Rattle.nm_lending.proofs.lending.Lending.gather.Goals as goal

pub loop-seat-preserved : goal.loop-seat-preserved
loop-seat-preserved g c =
    let inv = c.loop-seat.invariant in
    let i : ℕ = c.loop-seat.seat in
    let others = c.take-found.ensures.others in
    let old : List g.row.T.Denot = c.loop-seat.values.items in
    let next : List g.row.T.Denot = c.and_if_seated-values.result.items in
    let here : g.row.T.Denot → Type 0 = λ x. (k : ℕ) × (n : ℕ) × g.P.LendRule.resident c.args.self.site k n x in
    let items : (next ≡ old) ⊎ ((x : g.row.T.Denot) × here x × (next ≡ old ++ x ∷ [])) = ⊎_elim (λ s. inl s)
    (λ t. let there = sat_there g.P.LendRule.resident g.P.LendRule.goes c.args.self.site
    (slots_items c.loop-seat.closed.words) (slots_items c.loop-seat.closed.slots) inv.final i c.word-word.result
    c.take-found.result t.0 c.word-word.ensures t.2 c.take-found.ensures.value t.1 in
    inr (t.0, (i, there.0, there.1), t.3))
    c.and_if_seated-values.ensures.items in
    let longer = one_longer g.P.LendRule.resident g.P.LendRule.goes c.args.self.site old next items in
    let less = c.loop-seat-test.true in
    let end = c.slot_count-seat-end.ensures in
    let counts = c.close-closed.ensures.counts.1 in
    let invariant = c.self.invariant in
    let words = ap (λ (s : LendingView g.row.C.Denot). s.table.words) c.self.view_is in
    let as_long = inv.words.1 in
    let stays = others.2 in
    let F : List ℕ → List (Option g.row.T.Denot) → Type 0 = λ ws xs. Final
    (Lent g.P.LendRule.resident g.P.LendRule.goes c.args.self.site) ws xs in
    record {
      words = (
        ap slots_len others.3 ∙ inv.words.0,
        others.2 ∙ inv.words.1,
        λ k less. ap (λ w. get_or (slots_filled w) k false) others.3
            ∙ inv.words.2 k (subst (λ (n : ℕ). k < n) (ap slots_len others.3) less),
      );
      left = λ k low high. ap (λ (fs : List Bool). get_or fs k false) others.1
          ∙ left_next (slots_filled c.loop-seat.closed.slots) i (slots_len c.loop-seat.closed.slots) inv.left k low
          (subst (λ (n : ℕ). k < n) others.2 high);
      gone = λ k less. ap (λ (fs : List Bool). get_or fs k false) others.1
          ∙ gone_next (slots_filled c.loop-seat.closed.slots) i inv.gone k less;
      within = omega (arith, less, end, counts, invariant, words, as_long, stays);
      final = subst (λ ws. F ws (slots_items c.take-found.new.self.slots)) (sym (ap slots_items others.3))
          (subst (λ xs. F (slots_items c.loop-seat.closed.words) xs) (sym others.0) inv.final);
      rest = one_more g.P.LendRule.resident g.P.LendRule.goes c.args.self.site c.args.values.items old next inv.rest
          items;
      room = omega (arith, longer, inv.room, others.2, c.and_if_seated-values.ensures.capacity);
    }
