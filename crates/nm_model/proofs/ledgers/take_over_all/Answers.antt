use Rattle.std.proofs.Common.{◌≡◌, ◌+◌, ◌<◌, ℕ, List, Option, rules, sym, ap, ◌∙◌, ◌++◌, drop, take, slice_index_or, slice_set, length, add-one, add-zero, arith}
use Rattle.std.proofs.lemmas.List.{drop-set-lt, get_or-drop, length-set}
use Rattle.std.proofs.lemmas.Grind.{drop_more_same}
use Rattle.nm_model.specs.declared.ledger.Ledger.{Ledger}
use Rattle.nm_model.specs.Maps.{or_else}
use Rattle.nm_model.specs.Ledgers.{taken_over}
use Rattle.nm_model.proofs.Freeing.{taken_more}
use Rattle.nm_model.proofs.ledgers.take_over_all.Goals as goal

-- one more origin is taken over, in the list as it stands by now
taken_next : (ls ms all : List (Option Ledger)) (i : ℕ) (x p y : Option Ledger) → i < length ls → length ms ≡ length ls
    → all ≡ taken_over (take i ls) (take i ms) ++ drop i ls → x ≡ slice_index_or all i x → p ≡ slice_index_or ms i p
    → y ≡ or_else p x
    → slice_set all i y ≡ taken_over (take (i + 1) ls) (take (i + 1) ms) ++ drop (i + 1) ls
taken_next ls ms all i x p y below same so_far at passed is = rw (is, so_far, add-one)
    (taken_more ls ms i x p below same (rw (← so_far) at) passed)

-- what is left of a list is read as in the list
read_left : (now ms : List (Option Ledger)) (i : ℕ) (p : Option Ledger) → drop i now ≡ drop i ms
    → p ≡ slice_index_or now i p → p ≡ slice_index_or ms i p
read_left now ms i p same at =
    let there : slice_index_or (drop i now) 0 p ≡ slice_index_or now i p = get_or-drop i now 0 p
    ∙ ap (λ k. slice_index_or now k p) (add-zero i) in
    let here : slice_index_or (drop i ms) 0 p ≡ slice_index_or ms i p = get_or-drop i ms 0 p
    ∙ ap (λ k. slice_index_or ms k p) (add-zero i) in
    at ∙ sym there ∙ ap (λ xs. slice_index_or xs 0 p) same ∙ here

pub loop-origin-preserved : goal.loop-origin-preserved
loop-origin-preserved c =
    let i = c.loop-origin.origin in
    let inv = c.loop-origin.invariant in
    let p = c.index_mut-in-loop-origin.result.now in
    record {
      ledgers = taken_next c.args.ledgers.now.items c.args.passed.now.items c.loop-origin.ledgers.items i
          c.index_mut.result.now p c.pass_to.new.ledger
          (search rules) c.requires inv.ledgers c.index_mut.ensures.value
          (read_left c.loop-origin.passed.items c.args.passed.now.items i p inv.passed
          c.index_mut-in-loop-origin.ensures.value) c.pass_to.ensures;
      passed = drop-set-lt (i + 1) c.loop-origin.passed.items i c.pass_to.new.passed (omega arith)
          ∙ drop_more_same c.loop-origin.passed.items c.args.passed.now.items i inv.passed;
      same = length-set c.loop-origin.passed.items i c.pass_to.new.passed ∙ inv.same;
    }
