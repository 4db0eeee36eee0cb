-- The five fixed slots are in no pool and in nobody's hands, and keep their births.
use Rattle.std.proofs.Common.{◌≡◌, ◌≢◌, ℕ, ◌≤◌, Bool, false, List, [], ◌∷◌, refl, ap, ◌∙◌, arith}
use Rattle.std.specs.Prelude.{Option, Some, None}
use Rattle.std.proofs.lemmas.Bool.{false_from_ne_true}
use Rattle.nm_edge.specs.Layouts.{Layout, IsLayout}
use Rattle.nm_model.specs.declared.event.Field.{Field}
use Rattle.nm_model.specs.declared.event.Event.{Event}
use Rattle.nm_model.specs.declared.event.Event.TheVariants.{Fill}
use Rattle.nm_model.specs.declared.reply.Refused.{Refused}
use Rattle.nm_model.specs.Memory.{Memory, node, in_pool}
use Rattle.nm_model.specs.Knowledge.{is_private}
use Rattle.nm_model.specs.Runs.{State, of}
use Rattle.nm_model.specs.Ordered.{Configuration, opening_of, refused_in, next_in, applied_in, after_in, trace_in}
use Rattle.nm_laws.proofs.Steps.{Allowed, allowed}
use Rattle.nm_laws.proofs.Configurations.{refused_next, allowed_next, allowed_by_state}
use Rattle.nm_laws.proofs.Lawful.{IsLawful}
use Rattle.nm_laws.proofs.KnownBirths.{written_same}
use Rattle.nm_laws.proofs.TreeSteps.{fill_checked}
use Rattle.nm_order.proofs.CallWalks.{memory_after}
use Rattle.nm_model.specs.Headline.{words_after, IsStill}
use Rattle.nm_theorem.proofs.Runs.{lawful_opening, lawful_next, lawful_after}
use Rattle.nm_theorem.proofs.WrittenWords.{run_words, opening_words}
use Rattle.nm_theorem.proofs.Hands.{run_hands}

module _ (x : ℕ) (low : x ≤ 5) where
  not_own : (s : State) → IsLawful s → (u : ℕ) → is_private (of s u) x ≡ false
  not_own s l u = false_from_ne_true (is_private (of s u) x)
      (λ own. let high = (l.law.tree.privates u x own).0 in omega (arith, low, high))

  not_pooled : (s : State) → IsLawful s → in_pool s.memory x ≡ false
  not_pooled s l = false_from_ne_true (in_pool s.memory x)
      (λ free. let high = (l.law.tree.pools x free).0 in omega (arith, low, high))

  turn_keeps : (c : Configuration) → IsLawful c.state → (t : ℕ × Event)
      → (node (next_in c t).state.memory x).birth ≡ (node c.state.memory x).birth
  unfolding applied_in
  turn_keeps c l t = go (refused_in c t.0 t.1) refl
    where
      go : (o : Option Refused) → refused_in c t.0 t.1 ≡ o
          → (node (next_in c t).state.memory x).birth ≡ (node c.state.memory x).birth
      go (Some q) is = ap (λ (d : Configuration). (node d.state.memory x).birth) (refused_next c t q is)
      go None is = ap (λ (d : Configuration). (node d.state.memory x).birth) (allowed_next c t is)
          ∙ (ap (λ (m : Memory). (node m x).birth) (memory_after c.state t.0 t.1)
          ∙ (written_same c.state.memory (of c.state t.0) t.0 t.1 x apart).birth)
        where
          ok : Allowed c.state t.0 t.1
          ok = allowed c.state t.0 t.1 (allowed_by_state c t.0 t.1 is)

          apart : (y : ℕ) (f : Field) (v : ℕ) → t.1 ≡ Fill y f v → x ≢ y
          apart y f v fills same =
              let high = (l.law.tree.privates t.0 y (fill_checked c.state t.0 t.1 ok.event y f v fills)).0 in
              omega (arith, low, high, same)

  turns_keep : (ts : List (ℕ × Event)) (c : Configuration) → IsLawful c.state
      → (node (after_in c ts).state.memory x).birth ≡ (node c.state.memory x).birth
  unfolding after_in
  turns_keep [] c l = refl
  turns_keep (t ∷ ts) c l = turns_keep ts (next_in c t) (lawful_next c t l) ∙ turn_keeps c l t

pub fixed_stay : (L : Layout) → IsLayout L → (b : Bool) (ts : List (ℕ × Event)) (x : ℕ) → x ≤ 5
    → IsStill L [] (trace_in (opening_of L b) ts) x
fixed_stay L fits b ts x low = record {
  pooled = ap (λ (m : Memory). in_pool m x) words ∙ not_pooled x low (after_in (opening_of L b) ts).state lawful;
  in_hands = λ w. run_hands w x L fits b ts ∙ not_own x low (after_in (opening_of L b) ts).state lawful w;
  birth = ap (λ (m : Memory). (node m x).birth) words
      ∙ (turns_keep x low ts (opening_of L b) (lawful_opening L fits b)
      ∙ ap (λ (m : Memory). (node m x).birth) (opening_words L b));
}
  where
    lawful : IsLawful (after_in (opening_of L b) ts).state
    lawful = lawful_after ts (opening_of L b) (lawful_opening L fits b)

    words : words_after L (trace_in (opening_of L b) ts) ≡ (after_in (opening_of L b) ts).state.memory
    words = run_words L fits b ts
