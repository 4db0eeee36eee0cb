-- Entries that neither begin a pin nor win a flag: by them a worker's call goes on.
use Rattle.std.proofs.Common.{◌≡◌, ℕ, Bool, false, ◌||◌, List, [], ◌∷◌, ◌++◌, refl, sym, ap, subst, ◌∙◌, true≢false}
use Rattle.std.specs.Prelude.{Some, Ok}
use Rattle.std.specs.List.{list_any}
use Rattle.std.proofs.lemmas.Bool.{or_parts}
use Rattle.nm_model.specs.declared.arrivals.Call.{Call}
use Rattle.nm_model.specs.declared.event.Event.{Event}
use Rattle.nm_model.specs.declared.event.Event.TheVariants.{SightFor, Announce}
use Rattle.nm_model.specs.declared.event.Op.{Op}
use Rattle.nm_model.specs.declared.reply.Reply.{Reply}
use Rattle.nm_model.specs.declared.reply.Reply.TheVariants.{Announced, Pinned}
use Rattle.nm_model.specs.Searches.{Search, idle, searched}
use Rattle.nm_model.specs.Walks.{Entry, begins_anew, search_after}
use Rattle.nm_epoch.specs.Tries.{IsPinnedBy}
use Rattle.nm_laws.proofs.SearchesGrow.{look_beside, search_goes}
use Rattle.nm_progress.specs.Paid.{links_on, flags_on, cuts_on, tags_on}
use Rattle.nm_progress.specs.Tries.{changes_edge}
use Rattle.nm_progress.proofs.MoreTries.{is_loud, Plain, AddsNone, adds_these, adds_then, none_within}

-- ---- entries that neither begin a pin nor win a flag

abbrev pub is_turning : Entry → Bool
is_turning e = begins_anew e || flags_on e.0 (Ok e.1)

abbrev pub Steady : List Entry → List Entry → Type 0
Steady = AddsNone is_turning

pub steady_these : (more old new : List Entry) → list_any is_turning more ≡ false → new ≡ old ++ more → Steady old new
steady_these = adds_these is_turning

pub steady_then : (old mid new : List Entry) → Steady old mid → Steady mid new → Steady old new
steady_then = adds_then is_turning

quiet_steady : (es : List Entry) → list_any is_loud es ≡ false → list_any is_turning es ≡ false
quiet_steady = none_within is_loud is_turning (λ e quiet.
    let both = or_parts (begins_anew e) (changes_edge e.0 (Ok e.1)) quiet in
    let links = or_parts (links_on e.0 (Ok e.1)) (flags_on e.0 (Ok e.1)
    || (cuts_on e.0 (Ok e.1) || tags_on e.0 (Ok e.1))) both.1 in
    let flags = or_parts (flags_on e.0 (Ok e.1)) (cuts_on e.0 (Ok e.1) || tags_on e.0 (Ok e.1)) links.1 in
    ap (λ (b : Bool). b || flags_on e.0 (Ok e.1)) both.0 ∙ flags.0)

pub plain_steady : (old new : List Entry) → Plain old new → Steady old new
plain_steady old new p = record { entries = p.entries; are = p.are; quiet = quiet_steady p.entries p.quiet }

-- by such entries a worker's call goes on, and so does the leaf that it has flagged
abbrev pub SameCall : Search → Search → Type 0
SameCall s t = (t.call ≡ s.call) × (t.flagged ≡ s.flagged)

searched_same : (s : Search) (e : Event) (r : Reply) → is_turning (e, r) ≡ false → SameCall s (searched s e r)
searched_same s e r steady = search_goes (λ e r t. is_turning (e, r) ≡ false → SameCall s t) s
    (λ slot f r steady. let is = look_beside s s.call slot f r in
    (ap (λ (t : Search). t.call) is, ap (λ (t : Search). t.flagged) is))
    (λ p side leaf new n steady. (refl, refl)) (λ p side leaf n steady. absurd (true≢false steady))
    (λ a side x p keep ns steady. (refl, refl))
    (λ p side leaf new ns steady. (refl, refl)) (λ e r steady. (refl, refl)) e r
    (or_parts (begins_anew (e, r)) (flags_on e (Ok r)) steady).0 steady

search_same : (s : Search) (es : List Entry) → list_any is_turning es ≡ false → SameCall s (search_after s es)
search_same s [] steady = (refl, refl)
search_same s (e ∷ es) steady =
    let parts = or_parts (is_turning e) (list_any is_turning es) steady in
    let one = searched_same s e.0 e.1 parts.0 in
    let rest = search_same (searched s e.0 e.1) es parts.1 in
    (rest.0 ∙ one.0, rest.1 ∙ one.1)

search_on : (s : Search) (xs ys : List Entry) → search_after s (xs ++ ys) ≡ search_after (search_after s xs) ys
search_on s [] ys = refl
search_on s (x ∷ xs) ys = search_on (searched s x.0 x.1) xs ys

pub steady_call : (old new : List Entry) → Steady old new → SameCall (search_after idle old) (search_after idle new)
steady_call old new s = subst (λ (t : Search). SameCall (search_after idle old) t)
    (sym (ap (search_after idle) s.are ∙ search_on idle old s.entries))
    (search_same (search_after idle old) s.entries s.quiet)

-- ---- the key that a call is for

pub record IsFor (k : ℕ) (log : List Entry) : Type 0 where
  pub call : Call
  pub is : (search_after idle log).call ≡ Some call
  pub has_key : call.key ≡ k

pub for_on : (k : ℕ) (old new : List Entry) → Steady old new → IsFor k old → IsFor k new
for_on k old new s f = record { call = f.call; is = (steady_call old new s).0 ∙ f.is; has_key = f.has_key }

pinned_call : (s : Search) (op : Op) (k epoch : ℕ)
    → (searched s (SightFor op k) (Pinned epoch)).call ≡ Some (record { op = op; key = k })
unfolding searched
pinned_call s op k epoch = refl

pub pinned_for : (op : Op) (k tries : ℕ) (old new : List Entry) (epoch : ℕ)
    → IsPinnedBy (SightFor op k) tries old new epoch → IsFor k new
pinned_for op k tries old new epoch h = record {
  call = record { op = op; key = k };
  is = ap (λ (l : List Entry). (search_after idle l).call) h.5.1
      ∙ (ap (λ (s : Search). s.call) (search_on idle (h.2 ++ (Announce, Announced h.5.0) ∷ [])
      ((SightFor op k, Pinned epoch) ∷ [])) ∙ pinned_call _ op k epoch);
  has_key = refl;
}
