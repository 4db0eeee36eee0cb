-- What is left of a table that ends: the words of the core, as many as its layout has, and the values
-- after them.
use Rattle.std.proofs.Common.{◌≡◌, ◌≤◌, ℕ, List, length, sym, ap, ◌∙◌, subst, arith}
use Rattle.std.specs.Prelude.{drop, slice_index, take}
use Rattle.std.proofs.Math.Seq.{drop-append_seam, take-append_seam}
use Rattle.atomic_table.specs.Table.{Final, Seen}
use Rattle.nm_edge.specs.Layouts.{Layout}
use Rattle.nm_edge.specs.Words.{words}
use Rattle.nm_model.specs.Runs.{State, start}
use Rattle.nm_model.specs.Ordered.{Configuration, ordered, after_in}
use Rattle.nm_order.proofs.OrderedLaws.{each_ordered}
use Rattle.nm_order.proofs.OrderedLaws.{IsOrdered}
use Rattle.nm_laws.proofs.Reachable.{layout_kept}
use Rattle.nm_steps.specs.Packing.{Fits, StateFits}
use Rattle.nm_steps.proofs.PackedEvents.{each_state_fits}
use Rattle.nm_steps.proofs.PackedReads.{each_field_has_a_word}
use Rattle.nm_steps.specs.declared.view.View.{View}
use Rattle.nm_steps.specs.Rules.{Kept, Runs, stands}
use Rattle.nm_steps.specs.Steps.{Ends}
use Rattle.nm_steps.specs.Values.{EndsWithValues}
use Rattle.nm_steps.proofs.Counts.{at_most_sum}
use Rattle.nm_steps.proofs.Valuing.{all_linked, run_long}

module _ (L : Layout) (tree : List ℕ) (v : View) (e : Ends L tree v) where
  abbrev c : Configuration
  c = after_in (ordered L) e.turns

  enough : 5 ≤ L.nodes
  enough = let least = e.fits.least in omega arith

  o : IsOrdered L c
  o = each_ordered L enough e.turns e.keys

  layout_is : c.state.layout ≡ L
  layout_is = ap (λ (s : State). s.layout) o.leads ∙ layout_kept (start L) o.events

  fits : Fits L c.state.memory
  fits = subst (λ (l : Layout). Fits l c.state.memory) layout_is
      (subst StateFits (sym o.leads) (each_state_fits L enough o.events))

  pub ended_long : length tree ≡ words L
  ended_long = ap (λ (l : List ℕ). length l) e.words_are ∙ each_field_has_a_word L c.state.memory fits

module _ (L : Layout) (id : ℕ) (v : View) (all : List ℕ) (slots : List Unit) (count : ℕ) (is : count ≡ words L)
    (f : Final (Seen (Kept L) id v) all slots) where
  abbrev kept : Kept L f.0
  kept = f.1.0

  core_long : count ≡ length kept.core
  core_long = is ∙ sym (run_long L kept.core f.0.views kept.runs)

  first : take count all ≡ kept.core
  first = (λ j. take (core_long j) ((sym f.2 ∙ kept.words_are) j)) ∙ take-append_seam kept.core kept.values

  rest : drop count all ≡ kept.values
  rest = (λ j. drop (core_long j) ((sym f.2 ∙ kept.words_are) j)) ∙ drop-append_seam kept.core kept.values

  -- the words of the core, which come first
  pub ended : Ends L (take count all) v
  ended =
      let k : Runs L kept.core f.0.views = kept.runs in
      record {
        fits = k.fits;
        turns = k.turns;
        keys = k.keys;
        words_are = first ∙ k.words_are;
        shown = k.shown id v f.1.1;
        once = λ w. omega (arith, at_most_sum (stands w) f.0.views id v f.1.1, k.once w);
        past = (k.lags id v f.1.1).past;
      }

  -- the values come after them
  pub ended_with_values : length slots ≡ L.nodes → EndsWithValues L
      (record { core = take count all; values = drop count all }) v
  unfolding ended
  ended_with_values many =
      let long : length kept.values ≡ L.nodes = kept.long ∙ (f.3 ∙ many) in
      record {
        ends = ended;
        long = ap (λ (l : List ℕ). length l) rest ∙ long;
        stores = kept.stores;
        extends = (kept.valued.seen id v f.1.1).seen;
        are = λ i below. ap (λ (l : List ℕ). slice_index l i) rest ∙ kept.valued.are i (omega (arith, below, long));
        held = kept.valued.held;
        linked = all_linked L kept.runs.turns kept.values kept.stores kept.runs.fits long kept.valued.linked;
        order = kept.valued.order;
      }
