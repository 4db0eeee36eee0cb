-- Links and flags, counted on turns, are those of the run.
use Rattle.std.proofs.Common.{◌≡◌, ℕ, ◌+◌, Bool, false, ◌&&◌, List, [], ◌∷◌, ◌++◌, append_assoc, refl, sym, ap, subst, ◌∙◌, arith}
use Rattle.std.specs.Prelude.{Option, Some, None, Result, Ok, Err, All, if◌then◌else◌}
use Rattle.nm_edge.specs.Layouts.{Layout, IsLayout}
use Rattle.nm_model.specs.declared.arrivals.Call.{Call}
use Rattle.nm_model.specs.declared.event.Op.{Op}
use Rattle.nm_model.specs.declared.event.Op.TheVariants.{Insert, Delete}
use Rattle.nm_model.specs.declared.event.Event.{Event}
use Rattle.nm_model.specs.declared.event.Event.TheVariants.{Link, Flag}
use Rattle.nm_model.specs.declared.reply.Reply.{Reply}
use Rattle.nm_model.specs.declared.reply.Reply.TheVariants.{Linked, Flagged}
use Rattle.nm_model.specs.declared.reply.Refused.{Refused}
use Rattle.nm_model.specs.declared.trace.Turn.{Turn}
use Rattle.nm_model.specs.Walks.{Entry}
use Rattle.nm_model.specs.Ordered.{Configuration, HasKey, ordered, next_in, outcome_in, after_in, trace_in}
use Rattle.nm_laws.proofs.Configurations.{after_in-append}
use Rattle.nm_order.specs.Exchanges.{is_won_link}
use Rattle.nm_order.specs.History.{pin_of}
use Rattle.nm_order.specs.Totals.{is_for, is_so, call_of, links_of, flags_of, how_often as law_often}
use Rattle.nm_order.specs.WalksToArrivals.{is_won_flag}
use Rattle.nm_order.proofs.RunExchanges.{first_keys}
use Rattle.nm_order.proofs.WalksOfRuns.{trace_in-append}
use Rattle.nm_model.specs.Histories.{call_begun}
use Rattle.nm_theorem.proofs.HistoriesOfRuns.{call_is, with_pin}
use Rattle.nm_theorem.proofs.Runs.{enough_of}
use Rattle.nm_tree.specs.Closing.{how_often, is_for as for_call}
use Rattle.nm_tree.specs.Running.{wins}

pub wins_links : (e : Event) (o : Result Reply Refused) → wins Insert e o ≡ is_so is_won_link e o
wins_links e (Err x) = refused e
  where
    refused : (e : Event) → wins Insert e (Err x) ≡ false
    refused (Link p side leaf new) = refl
    refused e = refl
wins_links (Link p side leaf new) (Ok (Linked n)) = refl
wins_links e (Ok r) = refl

pub wins_flags : (e : Event) (o : Result Reply Refused) → wins Delete e o ≡ is_so is_won_flag e o
wins_flags e (Err x) = refused e
  where
    refused : (e : Event) → wins Delete e (Err x) ≡ false
    refused (Flag p side leaf) = refl
    refused e = refl
wins_flags (Flag p side leaf) (Ok (Flagged n)) = refl
wins_flags e (Ok r) = refl

for_key : (k l : ℕ) (c : Option Call) → for_call k (with_pin l c) ≡ is_for k c
for_key k l None = refl
for_key k l (Some c) = refl

module _ (L : Layout) (fits : IsLayout L) (op : Op) (is_such : Entry → Bool)
    (table : (e : Event) (o : Result Reply Refused) → wins op e o ≡ is_so is_such e o) (k : ℕ) where
  as_often : (early late : List (ℕ × Event)) → All (λ t. HasKey t.1) (early ++ late)
      → how_often op k (trace_in (ordered L) early) (trace_in (after_in (ordered L) early) late)
      ≡ law_often is_such k (after_in (ordered L) early) late
  unfolding trace_in law_often after_in
  as_often early [] keys = refl
  as_often early (t ∷ late) keys = with_more (more (as_often (early ++ t ∷ []) late))
    where
      c : Configuration
      c = after_in (ordered L) early

      turn : Turn
      turn = record { worker = t.0; event = t.1; outcome = outcome_in c t }

      told : for_call k (call_begun t.0 (trace_in (ordered L) early)) ≡ is_for k (call_of c t.0)
      told = ap (for_call k) (call_is L (enough_of L fits) t.0 early (first_keys early (t ∷ late) keys))
          ∙ for_key k (pin_of L early t.0) (call_of c t.0)

      after : after_in (ordered L) (early ++ t ∷ []) ≡ next_in c t
      after = after_in-append (ordered L) early (t ∷ [])

      trace : trace_in (ordered L) (early ++ t ∷ []) ≡ trace_in (ordered L) early ++ turn ∷ []
      trace = trace_in-append (ordered L) early (t ∷ [])

      with_more : how_often op k (trace_in (ordered L) early ++ turn ∷ []) (trace_in (next_in c t) late)
          ≡ law_often is_such k (next_in c t) late
          → how_often op k (trace_in (ordered L) early) (turn ∷ trace_in (next_in c t) late)
          ≡ law_often is_such k c (t ∷ late)
      with_more rest = (λ i. rest i + (if table t.1 (outcome_in c t) i && told i then 1 else 0)) ∙ omega arith

      more : (All (λ u. HasKey u.1) ((early ++ t ∷ []) ++ late)
          → how_often op k (trace_in (ordered L) (early ++ t ∷ []))
          (trace_in (after_in (ordered L) (early ++ t ∷ [])) late)
          ≡ law_often is_such k (after_in (ordered L) (early ++ t ∷ [])) late)
          → how_often op k (trace_in (ordered L) early ++ turn ∷ []) (trace_in (next_in c t) late)
          ≡ law_often is_such k (next_in c t) late
      more rest = (λ i. how_often op k (sym trace i) (trace_in (sym after i) late))
          ∙ (rest (subst (λ (us : List (ℕ × Event)). All (λ u. HasKey u.1) us)
          (sym (append_assoc early (t ∷ []) late)) keys)
          ∙ ap (λ (d : Configuration). law_often is_such k d late) after)

module _ (L : Layout) (fits : IsLayout L) (events : List (ℕ × Event)) (keys : All (λ t. HasKey t.1) events)
    (k : ℕ) where
  pub links_are : how_often Insert k [] (trace_in (ordered L) events) ≡ links_of k L events
  unfolding trace_in after_in
  links_are = as_often L fits Insert is_won_link wins_links k [] events keys

  pub flags_are : how_often Delete k [] (trace_in (ordered L) events) ≡ flags_of k L events
  unfolding trace_in after_in
  flags_are = as_often L fits Delete is_won_flag wins_flags k [] events keys
