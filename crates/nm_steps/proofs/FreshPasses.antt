-- Passes that have done nothing yet.
use Rattle.std.proofs.Common.{◌≡◌, ◌+◌, ◌-◌, ◌<◌, ℕ, true, false, true≢false, [], length, refl, sym, ap, ◌∙◌, subst, arith}
use Rattle.std.specs.Prelude.{None}
use Rattle.atomic_table.specs.declared.shared.Seat.{Seat}
use Rattle.nm_edge.specs.Layouts.{Layout, IsLayout}
use Rattle.nm_edge.specs.Words.{at_announcement, word}
use Rattle.nm_model.specs.declared.knowledge.Brief.{Brief}
use Rattle.nm_model.specs.Knowledge.{is_private}
use Rattle.nm_model.specs.Ordered.{trace_in}
use Rattle.nm_order.specs.Hands.{IsPooled}
use Rattle.nm_order.specs.Logs.{IsLogOf}
use Rattle.std.proofs.lemmas.List.Elements.{All-nil}
use Rattle.nm_steps.specs.declared.view.Stored.{Stored}
use Rattle.nm_steps.specs.declared.view.View.{View}
use Rattle.nm_steps.specs.Rules.{StoredBefore, knowledge, numbers_from, viewing, everybody}
use Rattle.nm_steps.specs.Steps.{HasSeen, Tied, fresh_view}
use Rattle.nm_steps.proofs.Cutting.{left_from}

-- before the first is dealt, all are left
pub left_all : (L : Layout) (v : View) → v ≡ everybody L → v ≡ left_from L 0
left_all L v e = e ∙ ap (λ n. viewing L (numbers_from 0 n)) (let same : L.workers ≡ L.workers - 0 = omega arith in same)

-- nothing is a worker's part of the run of no events
pub empty_log : (L : Layout) (w : ℕ) → w < L.workers → IsLogOf L w []
unfolding trace_in
empty_log L w h = record { worker = h; turns = []; keys = λ i d below. absurd (omega arith); is_part = refl }

abbrev pub no_epochs : Brief
no_epochs = record { seen = None; announcement = None; pin = None; unlabelled = false }

pub fresh_tied : (L : Layout) (it : Seat Unit View) (w announcement : ℕ) → IsLayout L → w < L.workers
    → announcement ≡ word L (at_announcement w) → it.me.0 ≡ fresh_view L w → it.me.1 ≡ []
    → Tied it w announcement no_epochs
unfolding empty_log trace_in
fresh_tied L it w announcement fits below at view empty = record {
  empty = empty;
  alive = ap (λ (v : View). v.resigned) view;
  number_is = sym (ap (λ (v : View). v.number) view);
  announcement_is = at ∙ sym (ap (λ (v : View). word v.layout (at_announcement w)) view);
  brief_is = sym (ap (λ (v : View). (knowledge v).brief) view);
  fits = subst (λ (v : View). IsLayout v.layout) (sym view) fits;
  worker = subst (λ (v : View). w < v.layout.workers) (sym view) below;
  small = tt;
  private = subst (λ (v : View). (x : ℕ) → is_private (knowledge v) x ≡ true → IsPooled v.layout x) (sym view)
      (λ x h. absurd (true≢false (sym h)));
  seen = subst HasSeen (sym view) (let log = empty_log L w below in
      record { worker = below; events = []; keys = log.keys; are = refl; is_part = refl; here = refl });
  heard = ap (λ (v : View). v.heard) view;
  heard_stores = ap (λ (v : View). v.heard_stores) view;
  stored = subst (λ (v : View). StoredBefore v.number (length v.log + 1) v.stores) (sym view)
      (All-nil (λ (x : Stored). x.worker ≡ w → x.own < 1));
}
