-- A walk in a worker's part of a run since its pin is one in its log since its pin: the joins by
-- which it may have resigned are no looks of a walk.
use Rattle.std.proofs.Common.{◌≡◌, ℕ, ◌==◌, Bool, true, false, cond, ◌||◌, List, [], ◌∷◌, ◌++◌, append-nil, refl, sym, ap, subst, ◌∙◌}
use Rattle.std.specs.Prelude.{Result, Ok, Err, filter}
use Rattle.std.proofs.lemmas.List.Elements.{filter-append}
use Rattle.nm_edge.specs.declared.edge.Side.{Side}
use Rattle.nm_model.specs.declared.event.Event.{Event}
use Rattle.nm_model.specs.declared.event.Event.TheVariants.{Join, Look}
use Rattle.nm_model.specs.declared.event.Field.TheVariants.{Key, Edge as EdgeOn}
use Rattle.nm_model.specs.declared.reply.Reply.{Reply}
use Rattle.nm_model.specs.declared.reply.Reply.TheVariants.{KeyIs, EdgeIs}
use Rattle.nm_model.specs.declared.reply.Refused.{Refused}
use Rattle.nm_model.specs.declared.trace.Turn.{Turn}
use Rattle.nm_model.specs.Searches.{side_of}
use Rattle.nm_model.specs.Walks.{Entry, logged_by, log_of, begins_anew, since_pin, IsPart, Leads, WalkComes, WalkEnds}
use Rattle.nm_model.specs.Walks.IsPart.{nothing, takes, skips}
use Rattle.nm_model.specs.Walks.Leads.{begins, leads_on}
use Rattle.nm_order.specs.Logs.{is_leaver, takes_part, part_of}
use Rattle.nm_order.specs.Ranges.{WalkPasses}
use Rattle.nm_order.proofs.LogParts.{part_within}
use Rattle.nm_order.proofs.WalksOfRuns.{since_pin-append}

-- ---- what is no join

abbrev is_other : Entry → Bool
is_other (Join v, r) = false
is_other _ = true

abbrev others : List Entry → List Entry
others log = filter is_other log

others_within : (ys : List Entry) → IsPart (others ys) ys
others_within [] = nothing
others_within (y ∷ ys) = by (is_other y) (others_within ys)
  where
    by : (b : Bool) → IsPart (others ys) ys → IsPart (cond b (y ∷ others ys) (others ys)) (y ∷ ys)
    by true rest = takes rest
    by false rest = skips rest

others_kept : {xs ys : List Entry} → IsPart xs ys → IsPart (others xs) (others ys)
others_kept nothing = nothing
others_kept (takes {x} {xs} {ys} p) = by (is_other x) (others_kept p)
  where
    by : (b : Bool) → IsPart (others xs) (others ys)
        → IsPart (cond b (x ∷ others xs) (others xs)) (cond b (x ∷ others ys) (others ys))
    by true rest = takes rest
    by false rest = rest
others_kept (skips {y} {xs} {ys} p) = by (is_other y) (others_kept p)
  where
    by : (b : Bool) → IsPart (others xs) (others ys) → IsPart (others xs) (cond b (y ∷ others ys) (others ys))
    by true rest = skips rest
    by false rest = rest

-- ---- the looks of a walk are no joins

looks_are_others : (k : ℕ) (looks : List Entry) (slot parent : ℕ) (side : Side) → Leads k looks slot parent side
    → others looks ≡ looks
looks_are_others k looks slot parent side (begins e there) = refl
looks_are_others k looks slot parent side (leads_on {looks = before} {slot = above} {parent = over} {side = turn}
    leads v e there) =
    let more : List Entry = (Look above Key, KeyIs v) ∷ (Look above (EdgeOn (side_of k v)), EdgeIs e) ∷ [] in
    filter-append is_other before more ∙ ap (λ (l : List Entry). l ++ more)
    (looks_are_others k before above over turn leads)

ended_looks_are_others : (k : ℕ) (looks : List Entry) (slot parent : ℕ) (side : Side)
    → Leads k looks slot parent side → (a b : Entry) → is_other a ≡ true → is_other b ≡ true
    → others (looks ++ a ∷ b ∷ []) ≡ looks ++ a ∷ b ∷ []
ended_looks_are_others k looks slot parent side leads a b first second =
    filter-append is_other looks (a ∷ b ∷ []) ∙ (ap (λ (l : List Entry). l ++ others (a ∷ b ∷ []))
    (looks_are_others k looks slot parent side leads) ∙ ap (λ (l : List Entry). looks ++ l) both)
  where
    both : others (a ∷ b ∷ []) ≡ a ∷ b ∷ []
    both = ap (λ (c : Bool). cond c (a ∷ others (b ∷ [])) (others (b ∷ []))) first
        ∙ ap (λ (c : Bool). a ∷ cond c (b ∷ []) []) second

-- ---- a part and a log

-- one turn, behind two lists that differ by joins alone
one_turn : (w : ℕ) (t : Turn) (a b : List Entry) → others a ≡ others b
    → others (since_pin a (cond (takes_part w t.worker t.event) (logged_by t) []))
    ≡ others (since_pin b (cond (t.worker == w) (logged_by t) []))
one_turn w t a b same = by (t.worker == w) t.outcome
  where
    same_entry : (e : Entry) → others (since_pin a (e ∷ [])) ≡ others (since_pin b (e ∷ []))
    same_entry e = anew (begins_anew e)
      where
        anew : (c : Bool) → others (cond c [] (a ++ e ∷ [])) ≡ others (cond c [] (b ++ e ∷ []))
        anew true = refl
        anew false = filter-append is_other a (e ∷ [])
            ∙ (ap (λ (l : List Entry). l ++ others (e ∷ [])) same ∙ sym (filter-append is_other b (e ∷ [])))

    left_out : (v : ℕ) (r : Reply) → others (since_pin a ((Join v, r) ∷ [])) ≡ others b
    left_out v r = filter-append is_other a ((Join v, r) ∷ []) ∙ (append-nil (others a) ∙ same)

    resigns : (e : Event) (o : Result Reply Refused)
        → others (since_pin a (cond (is_leaver w e) (logged_by (record { worker = t.worker; event = e; outcome = o }))
        [])) ≡ others b
    resigns (Join v) o = leaves (v == w) o
      where
        leaves : (c : Bool) (o : Result Reply Refused)
            → others (since_pin a (cond c (logged_by (record { worker = t.worker; event = Join v; outcome = o })) []))
            ≡ others b
        leaves true (Ok r) = left_out v r
        leaves true (Err x) = same
        leaves false o = same
    resigns e o = same

    by : (c : Bool) (o : Result Reply Refused) → others
        (since_pin a (cond (c || is_leaver w t.event) (logged_by
        (record { worker = t.worker; event = t.event; outcome = o })) []))
        ≡ others (since_pin b (cond c (logged_by (record { worker = t.worker; event = t.event; outcome = o })) []))
    by true (Ok r) = same_entry (t.event, r)
    by true (Err x) = same
    by false o = resigns t.event o

same_others : (w : ℕ) (ts : List Turn) (a b : List Entry) → others a ≡ others b
    → others (since_pin a (part_of w ts)) ≡ others (since_pin b (log_of w ts))
same_others w [] a b same = same
same_others w (t ∷ ts) a b same =
    let own : List Entry = cond (takes_part w t.worker t.event) (logged_by t) [] in
    let done : List Entry = cond (t.worker == w) (logged_by t) [] in
    ap others (since_pin-append a own (part_of w ts))
    ∙ (same_others w ts (since_pin a own) (since_pin b done) (one_turn w t a b same)
    ∙ ap others (sym (since_pin-append b done (log_of w ts))))

-- looks that are no joins, in their order in the part, are so in the log
in_log : (w : ℕ) (ts : List Turn) (looks : List Entry) → others looks ≡ looks
    → IsPart looks (since_pin [] (part_of w ts)) → IsPart looks (since_pin [] (log_of w ts))
in_log w ts looks none part = part_within (others_within (since_pin [] (log_of w ts))) looks
    (subst (λ (l : List Entry). IsPart looks l) (same_others w ts [] [] refl)
    (subst (λ (l : List Entry). IsPart l (others (since_pin [] (part_of w ts)))) none (others_kept part)))

-- a walk that came to a slot in the part came to it in the log, by the same looks
pub comes_in_log : (w : ℕ) (ts : List Turn) (k slot parent : ℕ) (side : Side)
    (walk : WalkComes k (since_pin [] (part_of w ts)) slot parent side)
    → (r : WalkComes k (since_pin [] (log_of w ts)) slot parent side) × (r.looks ≡ walk.looks)
comes_in_log w ts k slot parent side walk = (
  record {
    looks = walk.looks;
    leads = walk.leads;
    is_part = in_log w ts walk.looks (looks_are_others k walk.looks slot parent side walk.leads) walk.is_part;
  },
  refl,
)

-- one that went on from there went on in the log
pub passes_in_log : (w : ℕ) (ts : List Turn) (k slot parent : ℕ) (side : Side) (v : ℕ)
    → WalkPasses k (since_pin [] (part_of w ts)) slot parent side v
    → WalkPasses k (since_pin [] (log_of w ts)) slot parent side v
passes_in_log w ts k slot parent side v walk = record {
  looks = walk.looks;
  leads = walk.leads;
  next = walk.next;
  there = walk.there;
  is_part = in_log w ts (walk.looks ++ (Look slot Key, KeyIs v)
      ∷ (Look slot (EdgeOn (side_of k v)), EdgeIs walk.next) ∷ [])
      (ended_looks_are_others k walk.looks slot parent side walk.leads (Look slot Key, KeyIs v)
      (Look slot (EdgeOn (side_of k v)), EdgeIs walk.next) refl refl) walk.is_part;
}

-- and one that has ended in the part has ended in the log
pub ends_in_log : (w : ℕ) (ts : List Turn) (k slot parent : ℕ) (side : Side) (v : ℕ)
    → WalkEnds k (since_pin [] (part_of w ts)) slot parent side v
    → WalkEnds k (since_pin [] (log_of w ts)) slot parent side v
ends_in_log w ts k slot parent side v walk = record {
  looks = walk.looks;
  leads = walk.leads;
  null = walk.null;
  is_null = walk.is_null;
  is_part = in_log w ts (walk.looks ++ (Look slot Key, KeyIs v)
      ∷ (Look slot (EdgeOn (side_of k v)), EdgeIs walk.null) ∷ [])
      (ended_looks_are_others k walk.looks slot parent side walk.leads (Look slot Key, KeyIs v)
      (Look slot (EdgeOn (side_of k v)), EdgeIs walk.null) refl refl) walk.is_part;
}
