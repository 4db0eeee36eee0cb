-- A walk that came by an edge with a mark: the mark stays, the edge of its ancestor was read without
-- one, and the cleanup that follows interferes its worker.
use Rattle.std.proofs.Common.{◌≡◌, ◌≢◌, ℕ, zero, suc, ◌≤◌, inl, inr, ◌⊎◌, Bool, true, false, cond, not, ◌&&◌, ◌||◌, List, [], ◌∷◌, ◌++◌, append_assoc, refl, sym, ap, subst, ◌∙◌, arith, true≢false}
use Rattle.std.specs.Prelude.{Option, Some, None, Ok}
use Rattle.std.specs.List.{list_any}
use Rattle.std.proofs.lemmas.Bool.{or_parts, or_right}
use Rattle.std.proofs.lemmas.Option.{same_Some}
use Rattle.std.proofs.lemmas.List.{append-nil}
use Rattle.std.proofs.lemmas.List.Folds.{list_any-append}
use Rattle.nm_edge.specs.Edges.{Edge, other}
use Rattle.nm_edge.specs.Layouts.{Layout}
use Rattle.nm_edge.specs.declared.edge.Side.{Side}
use Rattle.nm_edge.specs.declared.edge.Side.TheVariants.{Left, Right}
use Rattle.nm_model.specs.declared.event.Event.{Event}
use Rattle.nm_model.specs.declared.event.Event.TheVariants.{Look, Link, Flag, Swap, Join}
use Rattle.nm_model.specs.declared.event.Field.TheVariants.{Key as KeyOf, Edge as EdgeOn}
use Rattle.nm_model.specs.declared.reply.Reply.{Reply}
use Rattle.nm_model.specs.declared.reply.Reply.TheVariants.{KeyIs, EdgeIs}
use Rattle.nm_model.specs.Memory.{child}
use Rattle.nm_model.specs.Knowledge.{Knowledge, read}
use Rattle.nm_model.specs.Learning.{read_edge}
use Rattle.nm_model.specs.Walks.{Entry, begins_anew}
use Rattle.nm_laws.proofs.Learned.{learn_link_lost, learn_flag_lost, learn_swap_lost}
use Rattle.nm_order.specs.Logs.{known_by, IsLogOf}
use Rattle.nm_order.specs.Facts.{Fact, Holds}
use Rattle.nm_order.specs.Facts.Fact.{KnowsSlot, IsTagged, IsFlagged}
use Rattle.nm_order.specs.Taught.{EdgeLearned}
use Rattle.nm_order.specs.Told.{TellsEdge}
use Rattle.nm_order.specs.Told.TellsEdge.{ByLook, ByLink, ByFlag, BySwap}
use Rattle.nm_order.proofs.FactLaws.{flagged_slots_stand_high, tagged_slots_stand_high}
use Rattle.nm_order.proofs.FactStays.{facts_stay}
use Rattle.nm_order.proofs.LastEntries.{LastEntry, last_entry, log_before, known_more}
use Rattle.nm_order.proofs.TaughtFacts.{is_read, edges_are_learned}
use Rattle.nm_order.proofs.ToldLaws.{lawful_before, is_answered, holds_then, twice_other, twins_are_told, flags_are_told}
use Rattle.nm_walks.specs.declared.cutting.Kept.{Kept}
use Rattle.nm_walks.specs.declared.looking.Onward.{Onward}
use Rattle.nm_walks.specs.declared.seek_record.ChainEdge.{ChainEdge}
use Rattle.nm_walks.specs.declared.seek_record.SeekRecord.{SeekRecord}
use Rattle.nm_walks.specs.Walks.{onto, after_looks, edge_on, Reads, Walks}
use Rattle.nm_walks.specs.Cleanups.{Chooses, FreezesOne, Freezes}
use Rattle.nm_progress.specs.Changes.{is_bare, Expects}
use Rattle.nm_progress.specs.Paid.{cuts_on}
use Rattle.nm_progress.specs.Tries.{reading, losing}
use Rattle.nm_progress.specs.Tries.LosesTries.{NoTry, OneTry}
use Rattle.nm_progress.proofs.MoreTries.{is_loud, Plain, plain_these, plain_then, quiet_pins, quiet_edges, log_prefix}
use Rattle.nm_progress.proofs.TagsPaid.{bare_parts}
use Rattle.nm_progress.proofs.Interfered.{Interferes, of_tries, of_help}
use Rattle.nm_progress.proofs.Parts.{Longer, reads_plain}
use Rattle.nm_progress.proofs.WalkReads.{WalkRead, walk_read}

-- ---- where a walk goes on

pub onto_beside : (t : SeekRecord) (d : Side) (e : Edge) → t.edge.tag ≡ false
    → ((onto t d e).ancestor ≡ t.parent) × ((onto t d e).above ≡ t.side) × ((onto t d e).successor ≡ t.edge.slot)
onto_beside t d e = by t.edge.tag
  where
    Next : Bool → SeekRecord
    Next b = cond {A = SeekRecord} b (record {
      ancestor = t.ancestor;
      above = t.above;
      successor = t.successor;
      parent = t.edge.slot;
      side = d;
      edge = e;
    }) (record
        { ancestor = t.parent; above = t.side; successor = t.edge.slot; parent = t.edge.slot; side = d; edge = e })

    by : (b : Bool) → b ≡ false → ((Next b).ancestor ≡ t.parent) × ((Next b).above ≡ t.side)
        × ((Next b).successor ≡ t.edge.slot)
    by true is = absurd (true≢false is)
    by false is = (refl, refl, refl)

pub onto_along : (t : SeekRecord) (d : Side) (e : Edge) → t.edge.tag ≡ true
    → ((onto t d e).ancestor ≡ t.ancestor) × ((onto t d e).above ≡ t.above) × ((onto t d e).successor ≡ t.successor)
onto_along t d e = by t.edge.tag
  where
    Next : Bool → SeekRecord
    Next b = cond {A = SeekRecord} b (record {
      ancestor = t.ancestor;
      above = t.above;
      successor = t.successor;
      parent = t.edge.slot;
      side = d;
      edge = e;
    }) (record
        { ancestor = t.parent; above = t.side; successor = t.edge.slot; parent = t.edge.slot; side = d; edge = e })

    by : (b : Bool) → b ≡ true → ((Next b).ancestor ≡ t.ancestor) × ((Next b).above ≡ t.above)
        × ((Next b).successor ≡ t.successor)
    by true is = (refl, refl, refl)
    by false is = absurd (true≢false (sym is))

-- an edge leads to a slot, and has a mark
abbrev pub StillMarked : Edge → ℕ → Type 0
StillMarked e s = (e.slot ≡ s) × ((e.flag || e.tag) ≡ true)

module _ (L : Layout) (enough : 5 ≤ L.nodes) (w : ℕ) where
  -- ---- facts behind later entries

  facts_last : (log more : List Entry) → IsLogOf L w (log ++ more) → list_any begins_anew more ≡ false
      → (fact : Fact) → Holds L w log fact → Holds L w (log ++ more) fact
  facts_last log [] l quiet fact holds = subst (λ (l : List Entry). Holds L w l fact) (sym (append-nil log)) holds
  facts_last log (e ∷ more) l quiet fact holds =
      let begins = or_parts (begins_anew e) (list_any begins_anew more) quiet in
      let longer = subst (IsLogOf L w) (sym (append_assoc log (e ∷ []) more)) l in
      subst (λ (l : List Entry). Holds L w l fact) (append_assoc log (e ∷ []) more)
      (facts_last (log ++ e ∷ []) more longer begins.1 fact
      (facts_stay L enough w log e (log_prefix L w (log ++ e ∷ []) more longer) begins.0 fact holds))

  -- the log tells that the edge of x on a side has a mark, and leads to s
  abbrev pub IsMarked : List Entry → ℕ → Side → ℕ → Type 0
  IsMarked log x d s = Holds L w log (IsFlagged x d s) ⊎ Holds L w log (IsTagged x d s)

  pub marks_last : (log more : List Entry) → IsLogOf L w (log ++ more) → list_any begins_anew more ≡ false
      → (x : ℕ) (d : Side) (s : ℕ) → IsMarked log x d s → IsMarked (log ++ more) x d s
  marks_last log more l quiet x d s (inl flagged) = inl (facts_last log more l quiet (IsFlagged x d s) flagged)
  marks_last log more l quiet x d s (inr tagged) = inr (facts_last log more l quiet (IsTagged x d s) tagged)

  pub marked_high : (log : List Entry) (x : ℕ) (d : Side) (s : ℕ) → IsLogOf L w log → IsMarked log x d s → 6 ≤ x
  marked_high log x d s l (inl flagged) = flagged_slots_stand_high L enough w log l x s d flagged
  marked_high log x d s l (inr tagged) = tagged_slots_stand_high L enough w log l x s d tagged

  -- a lost exchange finds it so
  tag_told : (log : List Entry) (entry : Entry) (x : ℕ) (d : Side) (s : ℕ) (e : Edge)
      → IsLogOf L w (log ++ entry ∷ []) → begins_anew entry ≡ false
      → known_by L w (log ++ entry ∷ []) ≡ read_edge (known_by L w log) x d e → Holds L w log (IsTagged x d s)
      → StillMarked e s
  tag_told log entry x d s e l begins now tagged = by (facts_stay L enough w log entry l begins (IsTagged x d s) tagged)
    where
      by : (f : Edge) × (read (known_by L w (log ++ entry ∷ [])) x d ≡ Some f) × (f.tag ≡ true) × (f.slot ≡ s)
          → StillMarked e s
      by (f, is, tag, leads) = (
        ap (λ (e : Edge). e.slot) same
            ∙ leads,
        or_right e.flag e.tag (ap (λ (e : Edge). e.tag) same ∙ tag),
      )
        where
          same : e ≡ f
          same = same_Some e f (sym (ap (λ (k : Knowledge). read k x d) now ∙ is_read (known_by L w log) x d e) ∙ is)

  flag_told : (log : List Entry) (entry : Entry) (x : ℕ) (d : Side) (s : ℕ) (e : Edge)
      → IsLogOf L w (log ++ entry ∷ []) → TellsEdge entry x d e → Holds L w log (IsFlagged x d s) → StillMarked e s
  flag_told log entry x d s e l tells flagged =
      let told = flags_are_told L enough w log entry l x d e s tells flagged in
      (told.1, ap (λ (b : Bool). b || e.tag) told.0)

  pub lost_link_marked : (log : List Entry) (x leaf new : ℕ) (d : Side) (s : ℕ) (e : Edge)
      → IsLogOf L w (log ++ losing (Link x d leaf new) e ∷ []) → IsMarked log x d s → StillMarked e s
  lost_link_marked log x leaf new d s e l (inl flagged) = flag_told log (losing (Link x d leaf new) e) x d s e l
      (ByLink x leaf new d e) flagged
  lost_link_marked log x leaf new d s e l (inr tagged) = tag_told log (losing (Link x d leaf new) e) x d s e l refl
      (known_more w _ log (losing (Link x d leaf new) e) ∙ learn_link_lost w (known_by L w log) x d leaf new e) tagged

  pub lost_flag_marked : (log : List Entry) (x leaf : ℕ) (d : Side) (s : ℕ) (e : Edge)
      → IsLogOf L w (log ++ losing (Flag x d leaf) e ∷ []) → IsMarked log x d s → StillMarked e s
  lost_flag_marked log x leaf d s e l (inl flagged) = flag_told log (losing (Flag x d leaf) e) x d s e l
      (ByFlag x leaf d e) flagged
  lost_flag_marked log x leaf d s e l (inr tagged) = tag_told log (losing (Flag x d leaf) e) x d s e l refl
      (known_more w _ log (losing (Flag x d leaf) e) ∙ learn_flag_lost w (known_by L w log) x d leaf e) tagged

  pub lost_swap_marked : (log : List Entry) (x leaf new : ℕ) (d : Side) (s : ℕ) (e : Edge)
      → IsLogOf L w (log ++ losing (Swap x d leaf new) e ∷ []) → IsMarked log x d s → StillMarked e s
  lost_swap_marked log x leaf new d s e l (inl flagged) = flag_told log (losing (Swap x d leaf new) e) x d s e l
      (BySwap x leaf new d e) flagged
  lost_swap_marked log x leaf new d s e l (inr tagged) = tag_told log (losing (Swap x d leaf new) e) x d s e l refl
      (known_more w _ log (losing (Swap x d leaf new) e) ∙ learn_swap_lost w (known_by L w log) x d leaf new e) tagged

  -- below a flagged edge stands a leaf
  leaf_below : (log : List Entry) (x : ℕ) (g : Side) (e : Edge)
      → IsLogOf L w (log ++ (Look x (EdgeOn g), EdgeIs e) ∷ []) → (p : ℕ) (d : Side) → Holds L w log (IsFlagged p d x)
      → e.slot ≡ 0
  leaf_below log x g e l p d flagged = go (last_entry L enough w log (Look x (EdgeOn g), EdgeIs e) l)
    where
      go : LastEntry L w log (Look x (EdgeOn g), EdgeIs e) → e.slot ≡ 0
      go last =
          let s = last.before.state in
          let law = lawful_before L enough w log (Look x (EdgeOn g), EdgeIs e) last in
          let fact = holds_then L enough w log (Look x (EdgeOn g), EdgeIs e) last (IsFlagged p d x) flagged in
          let known = law.1.tree.reads w p d fact.0 fact.1 in
          let is = law.1.tree.flag_read w p d fact.0 fact.1 fact.2 in
          let null = law.1.tree.leaf_known w p d (record {
            from = p;
            known = known;
            path = [];
            ends = refl;
            is_slot = λ z.
                (let r = law.1.tree.known w p known in absurd (omega (arith, r, z)));
          }) is.0 g in
          ap (λ (e : Edge). e.slot) (is_answered L enough w log (Look x (EdgeOn g), EdgeIs e) last)
          ∙ (ap (λ (y : ℕ). child s.memory y g) (sym (is.1 ∙ fact.3)) ∙ null)

  -- ---- an edge that was read without a mark

  -- the look at it, of a node that was known; since then nothing was changed
  pub record EdgeRead (x : ℕ) (d : Side) (s : ℕ) (old new : List Entry) : Type 0 where
    pub first : List Entry
    pub tail : List Entry
    pub are : new ≡ old ++ (first ++ reading x d s ∷ tail)
    pub quiet : list_any is_loud tail ≡ false
    pub known : Holds L w (old ++ first) (KnowsSlot x)

  -- an exchange that is lost behind it
  pub lost_behind : (x : ℕ) (d : Side) (s : ℕ) (old walked mid new : List Entry) (exchange : Event) (e : Edge)
      → EdgeRead x d s old walked → Plain walked mid → Expects x d s exchange
      → Longer (mid ++ losing exchange e ∷ []) new → Interferes L enough w old new 1
  lost_behind x d s old walked mid new exchange e r p expects rest =
      of_tries L enough w old new (r.first ++ reading x d s
      ∷ ((r.tail ++ p.entries) ++ losing exchange e ∷ rest.entries)) 1
      (rest.are ∙ (ap (λ (l : List Entry). (l ++ losing exchange e ∷ []) ++ rest.entries)
      (p.are ∙ ap (λ (l : List Entry). l ++ p.entries) r.are)
      ∙ in_parts old r.first (reading x d s) r.tail p.entries (losing exchange e) rest.entries))
      (OneTry 0 x d s r.first (r.tail ++ p.entries) rest.entries exchange e r.known expects
      (quiet_pins (r.tail ++ p.entries) quiet) (quiet_edges x d (r.tail ++ p.entries) quiet) NoTry)
    where
      quiet : list_any is_loud (r.tail ++ p.entries) ≡ false
      quiet = list_any-append is_loud r.tail p.entries
          ∙ (ap (λ (b : Bool). b || list_any is_loud p.entries) r.quiet ∙ p.quiet)

      in_parts : (old first : List Entry) (e : Entry) (tail more : List Entry) (f : Entry) (rest : List Entry)
          → (((old ++ (first ++ e ∷ tail)) ++ more) ++ f ∷ []) ++ rest
          ≡ old ++ (first ++ e ∷ ((tail ++ more) ++ f ∷ rest))
      in_parts old first e tail more f rest = append_assoc ((old ++ (first ++ e ∷ tail)) ++ more) (f ∷ []) rest
          ∙ (append_assoc (old ++ (first ++ e ∷ tail)) more (f ∷ rest)
          ∙ (append_assoc old (first ++ e ∷ tail) (more ++ f ∷ rest)
          ∙ ap (λ (l : List Entry). old ++ l) (append_assoc first (e ∷ tail) (more ++ f ∷ rest)
          ∙ ap (λ (l : List Entry). first ++ e ∷ l) (sym (append_assoc tail more (f ∷ rest))))))

  -- that of a walk's ancestor
  abbrev pub AncestorRead : List Entry → List Entry → SeekRecord → Type 0
  AncestorRead old new s = EdgeRead s.ancestor s.above s.successor old new

  -- behind further entries
  read_further : (old mid new : List Entry) (t s : SeekRecord)
      → (s.ancestor ≡ t.ancestor) × (s.above ≡ t.above) × (s.successor ≡ t.successor) → AncestorRead old mid t
      → Plain mid new → AncestorRead old new s
  read_further old mid new t s same r p = record {
    first = r.first;
    tail = r.tail ++ p.entries;
    are = p.are ∙ (ap (λ (l : List Entry). l ++ p.entries) r.are
        ∙ (append_assoc old (r.first ++ reading t.ancestor t.above t.successor ∷ r.tail) p.entries
        ∙ ((λ i. old ++ append_assoc r.first (reading t.ancestor t.above t.successor ∷ r.tail) p.entries i)
        ∙ (λ i. old ++ (r.first ++ reading (sym same.0 i) (sym same.1 i) (sym same.2 i) ∷ (r.tail ++ p.entries))))));
    quiet = list_any-append is_loud r.tail p.entries
        ∙ (ap (λ (b : Bool). b || list_any is_loud p.entries) r.quiet ∙ p.quiet);
    known = subst (λ (x : ℕ). Holds L w (old ++ r.first) (KnowsSlot x)) (sym same.0) r.known;
  }

  -- the edge by which a walk came, as its log tells it
  module _ (old new : List Entry) (s : SeekRecord) (l : IsLogOf L w new) (r : WalkRead L enough w old new s) where
    split : (xs ys : List Entry) (e : Entry) (zs : List Entry) → xs ++ (ys ++ e ∷ zs) ≡ ((xs ++ ys) ++ e ∷ []) ++ zs
    split [] [] e zs = refl
    split [] (y ∷ ys) e zs = ap (λ (l : List Entry). y ∷ l) (split [] ys e zs)
    split (x ∷ xs) ys e zs = ap (λ (l : List Entry). x ∷ l) (split xs ys e zs)

    whole : new ≡ ((old ++ r.first) ++ (Look s.parent (EdgeOn s.side), EdgeIs s.edge) ∷ []) ++ r.tail
    whole = r.are ∙ split old r.first (Look s.parent (EdgeOn s.side), EdgeIs s.edge) r.tail

    log : IsLogOf L w (((old ++ r.first) ++ (Look s.parent (EdgeOn s.side), EdgeIs s.edge) ∷ []) ++ r.tail)
    log = subst (IsLogOf L w) whole l

    learned : EdgeLearned (Holds L w ((old ++ r.first) ++ (Look s.parent (EdgeOn s.side), EdgeIs s.edge) ∷ []))
        s.parent s.side s.edge
    learned = edges_are_learned L enough w (old ++ r.first) (Look s.parent (EdgeOn s.side), EdgeIs s.edge)
        (log_prefix L w _ r.tail log) s.parent s.side s.edge (ByLook s.parent s.side s.edge) r.known

    further : (fact : Fact) → Holds L w ((old ++ r.first) ++ (Look s.parent (EdgeOn s.side), EdgeIs s.edge) ∷ [])
        fact → Holds L w new fact
    further fact holds = subst (λ (l : List Entry). Holds L w l fact) (sym whole)
        (facts_last _ r.tail log (quiet_pins r.tail r.quiet) fact holds)

    pub seek_flagged : s.edge.flag ≡ true → Holds L w new (IsFlagged s.parent s.side s.edge.slot)
    seek_flagged flag = further (IsFlagged s.parent s.side s.edge.slot) (learned.flagged flag)

    pub seek_tagged : s.edge.tag ≡ true → Holds L w new (IsTagged s.parent s.side s.edge.slot)
    seek_tagged tag = further (IsTagged s.parent s.side s.edge.slot) (learned.tagged tag)

    pub seek_marked : is_bare s.edge ≡ false → IsMarked new s.parent s.side s.edge.slot
    seek_marked marked = by s.edge.flag refl s.edge.tag refl marked
      where
        by : (f : Bool) → s.edge.flag ≡ f → (t : Bool) → s.edge.tag ≡ t → (not f && not t) ≡ false
            → IsMarked new s.parent s.side s.edge.slot
        by true flag t tag some = inl (seek_flagged flag)
        by false flag true tag some = inr (seek_tagged tag)
        by false flag false tag some = absurd (true≢false some)

  -- the look by which a walk came, where it found no mark
  pub seek_read : (old new : List Entry) (s : SeekRecord) → WalkRead L enough w old new s → is_bare s.edge ≡ true
      → EdgeRead s.parent s.side s.edge.slot old new
  seek_read old new s r bare = record {
    first = r.first;
    tail = r.tail;
    are = r.are ∙ ap (λ (e : Edge). old ++ (r.first ++ (Look s.parent (EdgeOn s.side), EdgeIs e) ∷ r.tail))
        (bare_parts s.edge bare);
    quiet = r.quiet;
    known = r.known;
  }

  -- an edge from which a walk went on is not flagged
  not_flagged : (k : ℕ) (mid new : List Entry) (t : SeekRecord) (on : Onward) → on.next.slot ≢ 0
      → Reads k t.edge.slot mid new on → IsLogOf L w new → Holds L w mid (IsFlagged t.parent t.side t.edge.slot) → ⊥
  not_flagged k mid new t on some (left, right, are, side, next) l flagged = on_side on.side refl
    where
      log3 : IsLogOf L w (after_looks mid t.edge.slot on.found left right)
      log3 = subst (IsLogOf L w) are l

      log2 : IsLogOf L w ((mid ++ (Look t.edge.slot KeyOf, KeyIs on.found) ∷ [])
          ++ (Look t.edge.slot (EdgeOn Left), EdgeIs left) ∷ [])
      log2 = log_before L w _ (Look t.edge.slot (EdgeOn Right), EdgeIs right) log3

      log1 : IsLogOf L w (mid ++ (Look t.edge.slot KeyOf, KeyIs on.found) ∷ [])
      log1 = log_before L w _ (Look t.edge.slot (EdgeOn Left), EdgeIs left) log2

      one : Holds L w (mid ++ (Look t.edge.slot KeyOf, KeyIs on.found) ∷ []) (IsFlagged t.parent t.side t.edge.slot)
      one = facts_stay L enough w mid (Look t.edge.slot KeyOf, KeyIs on.found) log1 refl
          (IsFlagged t.parent t.side t.edge.slot) flagged

      two : Holds L w ((mid ++ (Look t.edge.slot KeyOf, KeyIs on.found) ∷ [])
          ++ (Look t.edge.slot (EdgeOn Left), EdgeIs left) ∷ []) (IsFlagged t.parent t.side t.edge.slot)
      two = facts_stay L enough w _ (Look t.edge.slot (EdgeOn Left), EdgeIs left) log2 refl
          (IsFlagged t.parent t.side t.edge.slot) one

      on_side : (d : Side) → on.side ≡ d → ⊥
      on_side Left at = some (ap (λ (e : Edge). e.slot) (next ∙ ap (λ (d : Side). edge_on d left right) at)
          ∙ leaf_below _ t.edge.slot Left left log2 t.parent t.side one)
      on_side Right at = some (ap (λ (e : Edge). e.slot) (next ∙ ap (λ (d : Side). edge_on d left right) at)
          ∙ leaf_below _ t.edge.slot Right right log3 t.parent t.side two)

  -- by an edge without a tag a walk comes to a new ancestor
  ancestor_beside : (k : ℕ) (old mid new : List Entry) (t s : SeekRecord) (on : Onward) → s ≡ onto t on.side on.next
      → t.edge.tag ≡ false → WalkRead L enough w old mid t → on.next.slot ≢ 0 → Reads k t.edge.slot mid new on
      → IsLogOf L w mid → IsLogOf L w new → AncestorRead old new s
  ancestor_beside k old mid new t s on is untagged r some reads before l =
      read_further old mid new at_parent s (
        ap (λ (s : SeekRecord). s.ancestor) is
            ∙ beside.0,
        ap (λ (s : SeekRecord). s.above) is ∙ beside.1,
        ap (λ (s : SeekRecord). s.successor) is
            ∙ beside.2,
      ) (seek_read old mid t r bare) (reads_plain k t.edge.slot mid new on reads)
    where
      beside : ((onto t on.side on.next).ancestor ≡ t.parent) × ((onto t on.side on.next).above ≡ t.side)
          × ((onto t on.side on.next).successor ≡ t.edge.slot)
      beside = onto_beside t on.side on.next untagged

      at_parent : SeekRecord
      at_parent = record {
        ancestor = t.parent;
        above = t.side;
        successor = t.edge.slot;
        parent = t.parent;
        side =
            t.side;
        edge = t.edge;
      }

      bare : is_bare t.edge ≡ true
      bare = by t.edge.flag refl
        where
          by : (f : Bool) → t.edge.flag ≡ f → (not t.edge.flag && not t.edge.tag) ≡ true
          by true flag = absurd (not_flagged k mid new t on some reads l (seek_flagged old mid t before r flag))
          by false flag = (λ i. not (flag i) && not (untagged i))

  -- so a walk has read the edge of its ancestor, but where it stands at slot 2
  pub walk_ancestor : (k n : ℕ) (old new : List Entry) (s : SeekRecord) (c : List ChainEdge) → Walks k n old new s c
      → IsLogOf L w new → AncestorRead old new s ⊎ (s.parent ≡ 2)
  walk_ancestor k zero old new s c h l = inr (ap (λ (s : SeekRecord). s.parent) h.0)
  walk_ancestor k (suc n) old new s c (mid, t, d, on, walk, some, reads, is, more) l = by t.edge.tag refl
      (walk_ancestor k n old mid t d walk before)
    where
      before : IsLogOf L w mid
      before = let p = reads_plain k t.edge.slot mid new on reads in
          log_prefix L w mid p.entries (subst (IsLogOf L w) p.are l)

      along : t.edge.tag ≡ true → (s.ancestor ≡ t.ancestor) × (s.above ≡ t.above) × (s.successor ≡ t.successor)
      along tag = let same = onto_along t on.side on.next tag in (
        ap (λ (s : SeekRecord). s.ancestor) is ∙ same.0,
        ap (λ (s : SeekRecord). s.above) is
            ∙ same.1,
        ap (λ (s : SeekRecord). s.successor) is ∙ same.2,
      )

      by : (b : Bool) → t.edge.tag ≡ b → AncestorRead old mid t ⊎ (t.parent ≡ 2)
          → AncestorRead old new s ⊎ (s.parent ≡ 2)
      by false tag _ = inl (ancestor_beside k old mid new t s on is tag
          (walk_read L enough w k n old mid t d walk before) some reads before l)
      by true tag (inl r) = inl (read_further old mid new t s (along tag) r
          (reads_plain k t.edge.slot mid new on reads))
      by true tag (inr root) =
          let high = tagged_slots_stand_high L enough w mid before t.parent t.edge.slot t.side
          (seek_tagged old mid t before (walk_read L enough w k n old mid t d walk before) tag) in
          absurd (omega (arith, high, root))

  -- ---- a cleanup behind such a walk

  -- where the edge by which it came has a mark, there is an edge to keep
  pub some_kept : (s : SeekRecord) (start new : List Entry) → IsLogOf L w new
      → IsMarked start s.parent s.side s.edge.slot → Chooses s start new None → ⊥
  some_kept s start new l marked (e, f, are, none) = by marked
    where
      one : List Entry
      one = start ++ (Look s.parent (EdgeOn s.side), EdgeIs e) ∷ []

      log2 : IsLogOf L w ((start ++ (Look s.parent (EdgeOn s.side), EdgeIs e) ∷ [])
          ++ (Look s.parent (EdgeOn (other s.side)), EdgeIs f) ∷ [])
      log2 = subst (IsLogOf L w) are l

      log1 : IsLogOf L w (start ++ (Look s.parent (EdgeOn s.side), EdgeIs e) ∷ [])
      log1 = log_before L w _ (Look s.parent (EdgeOn (other s.side)), EdgeIs f) log2

      first : (a b : Bool) → a ≡ true → (x y : Kept) → None ≡ cond a (Some x) (cond b (Some y) None) → ⊥
      first true b is x y e = cc
      first false b is x y e = absurd (true≢false (sym is))

      second : (a b : Bool) → b ≡ true → (x y : Kept) → None ≡ cond a (Some x) (cond b (Some y) None) → ⊥
      second true b is x y e = cc
      second false true is x y e = cc
      second false false is x y e = absurd (true≢false (sym is))

      by : IsMarked start s.parent s.side s.edge.slot → ⊥
      by (inl flagged) = first e.flag f.flag (flags_are_told L enough w start
          (Look s.parent (EdgeOn s.side), EdgeIs e) log1 s.parent s.side e s.edge.slot (ByLook s.parent s.side e)
          flagged).0 _ _ none
      by (inr tagged) = second e.flag f.flag (twins_are_told L enough w
          (start ++ (Look s.parent (EdgeOn s.side), EdgeIs e) ∷ []) (Look s.parent (EdgeOn (other s.side)), EdgeIs f)
          log2 s.parent (other s.side) f s.edge.slot (ByLook s.parent (other s.side) f)
          (subst (λ (d : Side). Holds L w (start ++ (Look s.parent (EdgeOn s.side), EdgeIs e) ∷ [])
          (IsTagged s.parent d s.edge.slot)) (sym (twice_other s.side))
          (facts_stay L enough w start (Look s.parent (EdgeOn s.side), EdgeIs e) log1 refl
          (IsTagged s.parent s.side s.edge.slot) tagged))) _ _ none

  -- what it looks at changes nothing
  pub chooses_plain : (s : SeekRecord) (r : Option Kept) (old new : List Entry) → Chooses s old new r → Plain old new
  chooses_plain s r old new h = plain_then old _ new (plain_these _ old _ refl refl) (plain_these _ _ new refl h.2)

  freezes_one : (slot : ℕ) (side : Side) (old new : List Entry) → FreezesOne slot side old new → Plain old new
  freezes_one slot side old new h = plain_then old _ new (plain_these _ old _ refl refl)
      (plain_then _ _ new (plain_these _ _ _ refl refl) (plain_these _ _ new refl h.3))

  pub freezes_plain : (parent : ℕ) (keep : Side) (c : List ChainEdge) (old new : List Entry)
      → Freezes parent keep c old new → Plain old new
  freezes_plain parent keep [] old new h = freezes_one parent keep old new h
  freezes_plain parent keep (l ∷ c) old new h = plain_then old h.0 new (freezes_one l.slot l.side old h.0 h.1)
      (freezes_plain parent keep c h.0 new h.2)

  -- an own splice, in the midst of others
  pub help_between : (old mid new : List Entry) (e : Event) (r : Reply) → Longer old mid
      → Longer (mid ++ (e, r) ∷ []) new → ((v : ℕ) → e ≡ Join v → ⊥) → cuts_on e (Ok r) ≡ true
      → Interferes L enough w old new 1
  help_between old mid new e r a b alone helps = of_help L enough w old new a.entries b.entries e r
      (b.are ∙ (ap (λ (l : List Entry). (l ++ (e, r) ∷ []) ++ b.entries) a.are
      ∙ (append_assoc (old ++ a.entries) ((e, r) ∷ []) b.entries
      ∙ append_assoc old a.entries ((e, r) ∷ b.entries)))) alone helps
