use Rattle.std.proofs.Common.{rules, ◌≡◌, ◌+◌, ◌-◌, ◌++◌, ◌∙◌, ℕ, List, ap, length, arith, sym, subst}
use Rattle.std.specs.Prelude.{replicate, take}
use Rattle.std.proofs.lemmas.List.{take_all, length-append, length-replicate}
use Rattle.nm_edge.specs.Layouts.{Layout, IsLayout}
use Rattle.nm_edge.specs.Words.{words}
use Rattle.nm_model.specs.Memory.{opening}
use Rattle.nm_steps.specs.Packing.{words_of}
use Rattle.nm_steps.proofs.ValueSteps.{opens_values}
use Rattle.nm_steps.proofs.OpeningWords.{opening_long}
use Rattle.nm_steps.proofs.pass.making.made_with_values.Goals as goal

-- the words that were made longer
grown : (L : Layout) (old new : List ℕ) (long n k : ℕ) → old ≡ words_of L (opening L)
    → new ≡ take long old ++ replicate (long - k) 0 → k ≡ length old → long ≡ k + n
    → new ≡ words_of L (opening L) ++ replicate n 0
grown L old new long n k are made len is =
    made
    ∙ (ap (λ (l : List ℕ). l ++ replicate (long - k) 0) (take_all long old (omega (arith, is, len)) ∙ are)
    ∙ ap (λ (j : ℕ). words_of L (opening L) ++ replicate {A = ℕ} j 0) (omega (arith, is)))

-- and how long they are
all_long : (L : Layout) (new : List ℕ) (n : ℕ) → IsLayout L → new ≡ words_of L (opening L) ++ replicate n 0
    → length new ≡ words L + n
all_long L new n fits is =
    let whole = ap length is ∙ length-append (words_of L (opening L)) (replicate n 0) in
    let core = opening_long L (let least = fits.least in omega (arith, least)) in
    let rest = length-replicate {A = ℕ} n 0 in
    omega (arith, whole, core, rest)

pub new-requires : goal.new-requires
new-requires c = opens_values c.args.layout c.as_slice.result.now c.in_ok-units.units.items
    c.workers-workers.ensures.fits
    (c.as_slice.ensures.value
    ∙ grown c.args.layout c.in_ok-tree.tree.items c.resize.new.self.items (c.len.result + c.nodes-nodes.result)
    (length c.in_ok-units.units.items) c.len.result c.in_ok-tree.ensures
    (subst (λ (k : ℕ). c.resize.new.self.items ≡ take (c.len.result + c.nodes-nodes.result) c.in_ok-tree.tree.items
    ++ replicate {A = ℕ} (c.len.result + c.nodes-nodes.result - k) 0) (sym c.len.ensures)
    c.in_ok-resize.ensures.items) (search rules) (search rules))

pub dealt-requires-clause-words : goal.dealt-requires-clause-words
dealt-requires-clause-words c =
    let t = c.in-Ok.ensures.ok in
    let all = t.0 in
    let long = all_long c.args.layout c.as_slice.result.now (length c.in_ok-units.units.items)
    c.workers-workers.ensures.fits
    (c.as_slice.ensures.value
    ∙ grown c.args.layout c.in_ok-tree.tree.items c.resize.new.self.items (c.len.result + c.nodes-nodes.result)
    (length c.in_ok-units.units.items) c.len.result c.in_ok-tree.ensures
    (subst (λ (k : ℕ). c.resize.new.self.items ≡ take (c.len.result + c.nodes-nodes.result) c.in_ok-tree.tree.items
    ++ replicate {A = ℕ} (c.len.result + c.nodes-nodes.result - k) 0) (sym c.len.ensures)
    c.in_ok-resize.ensures.items) (search rules) (search rules)) in
    omega (arith, all, long)

pub dealt-requires-clause-kind : goal.dealt-requires-clause-kind
dealt-requires-clause-kind c =
    let t = c.in-Ok.ensures.ok in
    let units : length c.in_ok-units.units.items ≡ c.args.layout.nodes = search rules in
    let long = all_long c.args.layout c.as_slice.result.now (length c.in_ok-units.units.items)
    c.workers-workers.ensures.fits
    (c.as_slice.ensures.value
    ∙ grown c.args.layout c.in_ok-tree.tree.items c.resize.new.self.items (c.len.result + c.nodes-nodes.result)
    (length c.in_ok-units.units.items) c.len.result c.in_ok-tree.ensures
    (subst (λ (k : ℕ). c.resize.new.self.items ≡ take (c.len.result + c.nodes-nodes.result) c.in_ok-tree.tree.items
    ++ replicate {A = ℕ} (c.len.result + c.nodes-nodes.result - k) 0) (sym c.len.ensures)
    c.in_ok-resize.ensures.items) (search rules) (search rules)) in
    record {
      words_are = t.0 ∙ (long ∙ ap (λ (n : ℕ). words c.args.layout + n) units);
      slots_are = t.1 ∙ units;
    }
