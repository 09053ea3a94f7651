-- Where nothing is to do but for members.
use Rattle.std.proofs.Common.{◌≡◌, inl, inr, ◌==◌, ◌&&◌, ◌||◌, ℕ, Bool, true, nat_lt, List, [], ◌∷◌, length, Option, Some, None, is_none, refl, sym, ap, subst, ◌∙◌}
use Rattle.std.specs.List.{AllZip, list_all}
use Rattle.std.specs.Option.{MatchOption}
use Rattle.std.proofs.lemmas.Bool.{false≢true}
use Rattle.med_base.specs.declared.outside.source.Source.{Ghosts as Source}
use Rattle.tuple_core.specs.Values.{RowList}
use Rattle.csv_wrap.specs.Wrapped.{SameSource}
use Rattle.collect_core.specs.Members.{Member, are_settled, is_ended, is_in, is_settled, member_now, member_now_with}
use Rattle.collect_core.specs.Reading.{Reader}
use Rattle.collect_core.specs.Selecting.{Select}
use Rattle.collect_core.specs.Steps.{ReadsOn}
use Rattle.collect_core.specs.declared.reader.Collected.TheVariants as collected
use Rattle.join_core.specs.Given.{pairs_left_over}
use Rattle.join_core.specs.State.{Joining}
use Rattle.join_core.specs.Steps.{is_finished}
use Rattle.row_match.specs.declared.shape.Side.TheVariants as side
use Rattle.step_core.specs.Edges.{IsEmpty, SameWaits, Waits}
use Rattle.step_core.specs.Going.{then}
use Rattle.step_core.specs.Joins.{ClosesJoin}
use Rattle.step_core.specs.Leaves.{ClosesLeaf}
use Rattle.step_core.specs.Nets.{JoinState, LeafState, NetState, NetTree, leaf, fork}
use Rattle.step_core.specs.Passes.{AreSettledIn, HasPut, IsQuiet, LeafIdles, NetIsQuiet, Stood, TreeIdles, has_room, most_waiting}
use Rattle.step_core.specs.Parts.{TakesWhile}
use Rattle.step_core.specs.Standing.{NetStands, Stands}
use Rattle.step_core.specs.declared.actor.StepEnd.{StepEnd}
use Rattle.step_core.specs.declared.actor.StepEnd.TheVariants as step_end
use Rattle.step_core.proofs.Ending.{then_still}
use Rattle.step_core.proofs.Giving.{same_waits}
use Rattle.step_core.proofs.Sweeping.{TookStill, took_still}

-- ---- an operator that was swept

put_same : (w v : Waits) (finished : Bool) → v.put ≡ w.put → HasPut w finished → HasPut v finished
put_same w v finished e (inl put) = inl (e ∙ put)
put_same w v finished e (inr open_still) = inr open_still

-- the taker may take of its edge
pub quiet_same : {S : Type 0} (t : NetTree S) (w v : Waits) → v.put ≡ w.put → IsQuiet t w → IsQuiet t v
quiet_same (leaf l) w v e h = put_same w v (are_settled l.collecting.members) e h
quiet_same (fork j a b) w v e (below, rests) =
    (below, record { left = rests.left; right = rests.right; no_match = rests.no_match; none_left = rests.none_left; put = put_same w v (is_finished j.joining) e rests.put })

pub quiet_leaf : {S : Type 0} (l k : LeafState S) (w v : Waits) (end : StepEnd) → ClosesLeaf l k w v end → IsQuiet (leaf k) v
quiet_leaf l k w v step_end.Moved c = inl (ap (λ x. x.put) c.put.put)
quiet_leaf {S} l k w v step_end.Still (same, why) = subst (λ x. IsQuiet (leaf x) v) (sym same) (subst (λ x. IsQuiet (leaf l) x) (sym why.out) why.why)
quiet_leaf l k w v step_end.NoMemory c = absurd c

closed_put : (j k : JoinState) (w v : Waits) (end : StepEnd) → ClosesJoin j k w v end → (k ≡ j) × HasPut v (is_finished j.joining)
closed_put j k w v step_end.Moved c = (c.same, inl (ap (λ x. x.put) c.put.put))
closed_put j k w v step_end.Still (same, why) = (same, subst (λ x. HasPut x (is_finished j.joining)) (sym why.out) why.why)
closed_put j k w v step_end.NoMemory c = absurd c

closed_room : (j k : JoinState) (w v : Waits) (end : StepEnd) → ClosesJoin j k w v end → has_room v ≡ true → has_room w ≡ true
closed_room j k w v step_end.Moved c room = ap (λ rows. nat_lt (length rows) most_waiting) (sym (ap (λ x. x.rows) c.put.put)) ∙ room
closed_room j k w v step_end.Still (same, why) room = ap has_room (sym why.out) ∙ room
closed_room j k w v step_end.NoMemory c room = absurd c

-- the operators below are quiet where nothing moved, and so is the join where few of its rows wait
pub quiet_join : {S : Type 0} (end first next lefts rights closing : StepEnd) (j h i k : JoinState) (a b : NetTree S) (w x y v : Waits) → end ≡ then (then first next) (then (then lefts rights) closing)
    → (first ≡ step_end.Still → has_room j.left ≡ true → IsQuiet a j.left) → (next ≡ step_end.Still → has_room j.right ≡ true → IsQuiet b j.right)
    → TakesWhile side.Left j h w x lefts → TakesWhile side.Right h i x y rights → pairs_left_over i.joining ≡ [] → ClosesJoin i k y v closing → end ≡ step_end.Still → has_room v ≡ true → IsQuiet (fork k a b) v
quiet_join {S} end first next lefts rights closing j h i k a b w x y v is left right takes_left takes_right none_left closes still room =
    subst (λ x. IsQuiet (fork x a b) v) (sym closed.0) (
      (quiet_left, quiet_right),
      record {
        left = subst IsEmpty (sym on_right.all.other) on_left.all.empty;
        right = on_right.all.empty;
        no_match = on_right.all.no_match;
        none_left = none_left;
        put = closed.1;
      },
    )
  where
    all_still : (then first next ≡ step_end.Still) × (then (then lefts rights) closing ≡ step_end.Still)
    all_still = then_still (then first next) (then (then lefts rights) closing) (sym is ∙ still)

    below_still : (first ≡ step_end.Still) × (next ≡ step_end.Still)
    below_still = then_still first next all_still.0

    taken_still : (lefts ≡ step_end.Still) × (rights ≡ step_end.Still)
    taken_still = then_still lefts rights (then_still (then lefts rights) closing all_still.1).0

    on_right : TookStill side.Right h i x
    on_right = took_still side.Right h i x y rights taken_still.1 (closed_room i k y v closing closes room) takes_right

    on_left : TookStill side.Left j h w
    on_left = took_still side.Left j h w x lefts taken_still.0 on_right.room takes_left

    closed : (k ≡ i) × HasPut v (is_finished i.joining)
    closed = closed_put i k y v closing closes

    quiet_left : IsQuiet a i.left
    quiet_left = quiet_same a j.left i.left (ap (λ x. x.put) on_right.all.other ∙ on_left.all.put) (left below_still.0 on_left.was_room)

    quiet_right : IsQuiet b i.right
    quiet_right = quiet_same b j.right i.right (on_right.all.put ∙ ap (λ x. x.put) on_left.all.other) (right below_still.1 (subst (λ x. has_room x ≡ true) on_left.all.other on_right.was_room))

-- ---- where each group is settled

settled_put : (w : Waits) (finished : Bool) → HasPut w finished → finished ≡ true → w.put ≡ true
settled_put w finished (inl put) e = put
settled_put w finished (inr open_still) e = absurd (false≢true (sym open_still ∙ e))

all_finished : (s : Joining) → s.left_ended ≡ true → s.right_ended ≡ true → s.probe ≡ None → pairs_left_over s ≡ [] → is_finished s ≡ true
all_finished s left right probe none =
    ap (λ b. (b && s.right_ended) && (is_none s.probe && (length (pairs_left_over s) == 0))) left
    ∙ (ap (λ b. b && (is_none s.probe && (length (pairs_left_over s) == 0))) right
    ∙ (ap (λ o. is_none o && (length (pairs_left_over s) == 0)) probe ∙ ap (λ ps. length ps == 0) none))

quiet_put : {S M : Type 0} (source : Source S M) (t : NetTree S) (w : Waits) (gave : RowList) → Stands source t gave → IsQuiet t w → AreSettledIn t → w.put ≡ true
quiet_put source (leaf l) w gave stands quiet settled = settled_put w (are_settled l.collecting.members) quiet settled
quiet_put source (fork j a b) w gave (from_left, from_right, (left, (right, (takes, gave_is)))) ((quiet_a, quiet_b), rests) (settled_a, settled_b) =
    settled_put w (is_finished j.joining) rests.put (all_finished j.joining
    (takes.left_ended ∙ rests.left.ended (quiet_put source a j.left from_left left quiet_a settled_a))
    (takes.right_ended ∙ rests.right.ended (quiet_put source b j.right from_right right quiet_b settled_b)) rests.no_match rests.none_left)

pub quiet_finished : {S M : Type 0} (source : Source S M) (n : NetState S) → NetStands source n → NetIsQuiet n → AreSettledIn n.tree → n.edge.taken ≡ true
quiet_finished source n stands quiet settled = quiet.edge.ended (quiet_put source n.tree n.edge stands.gave stands.tree quiet.tree settled)

-- ---- where no member moved

-- members of the same name that stand alike
abbrev Alike : {S : Type 0} → Member S → Member S → Type 0
Alike m n = (n.name ≡ m.name) × ((member_now n).state ≡ (member_now m).state)

-- groups are settled alike, where members of the same names stand alike
alike_any : {S : Type 0} (group : ℕ) (ms ns : List (Member S)) → AllZip Alike ms ns → is_settled ns group ≡ is_settled ms group
alike_any group [] [] h = refl
alike_any group [] (n ∷ ns) h = absurd h
alike_any group (m ∷ ms) [] h = absurd h
alike_any group (m ∷ ms) (n ∷ ns) (alike, rest) =
    ap (λ b. b || is_settled ns group) (ap (λ x. (x.group == group) && is_ended (member_now n).state) alike.0 ∙ ap (λ x. is_in group m && is_ended x) alike.1)
    ∙ ap (λ b. (is_in group m && is_ended (member_now m).state) || b) (alike_any group ms ns rest)

alike_all : {S : Type 0} (f g : ℕ → Bool) → ((group : ℕ) → g group ≡ f group) → (ms ns : List (Member S)) → AllZip Alike ms ns → list_all (λ n. g n.name.group) ns ≡ list_all (λ m. f m.name.group) ms
alike_all f g same [] [] h = refl
alike_all f g same [] (n ∷ ns) h = absurd h
alike_all f g same (m ∷ ms) [] h = absurd h
alike_all f g same (m ∷ ms) (n ∷ ns) (alike, rest) =
    ap (λ b. b && list_all (λ x. g x.name.group) ns) (ap (λ x. g x.group) alike.0 ∙ same m.name.group) ∙ ap (λ b. f m.name.group && b) (alike_all f g same ms ns rest)

alike_settled : {S : Type 0} (ms ns : List (Member S)) → AllZip Alike ms ns → are_settled ns ≡ are_settled ms
alike_settled ms ns h = alike_all (is_settled ms) (is_settled ns) (λ group. alike_any group ms ns h) ms ns h

stood_alike : {S M : Type 0} (source : Source S M) (select : Select) (m n : Member S) → Stood source select m n → Alike m n
stood_alike {S} {M} source select m n h = go m.reader refl h
  where
    read_alike : (r q : Reader S) → ReadsOn source select r q collected.Still → q.state ≡ r.state
    read_alike r q (inl (idle, is)) = ap (λ x. x.state) is
    read_alike r q (inr p) = p.state_is ∙ sym p.was

    go : (o : Option (Reader S)) → m.reader ≡ o → MatchOption o ((collected.Still ≡ collected.Still) × (n ≡ m)) (λ r. (q : Reader S) × (n ≡ record m { reader = Some q }) × SameSource source r.wrapper.source q.wrapper.source × ReadsOn source select r q collected.Still) → Alike m n
    go None e (still, same) = (ap (λ x. x.name) same, ap (λ x. (member_now x).state) same)
    go (Some r) e (q, is, same, reads) = (ap (λ x. x.name) is, ap (λ x. (member_now x).state) is ∙ read_alike r q reads ∙ sym (ap (λ o. (member_now_with m.opening_failed o).state) e))

all_alike : {S M : Type 0} (source : Source S M) (select : Select) (ms ns : List (Member S)) → AllZip (Stood source select) ms ns → AllZip Alike ms ns
all_alike source select [] [] h = tt
all_alike source select [] (n ∷ ns) h = absurd h
all_alike source select (m ∷ ms) [] h = absurd h
all_alike source select (m ∷ ms) (n ∷ ns) h = (stood_alike source select m n h.0, all_alike source select ms ns h.1)

idle_settled : {S M : Type 0} (source : Source S M) (l k : LeafState S) (w : Waits) → LeafIdles source l k w → are_settled k.collecting.members ≡ are_settled l.collecting.members
idle_settled source l k w (inl (held, same)) = ap (λ x. are_settled x.collecting.members) same
idle_settled source l k w (inr stood) = alike_settled l.collecting.members k.collecting.members (all_alike source l.collecting.select l.collecting.members k.collecting.members stood)

idle_edge : {S M : Type 0} (source : Source S M) (t u : NetTree S) (w v : Waits) → TreeIdles source t u w v → SameWaits w v
idle_edge source (leaf l) (leaf k) w v h = h.0
idle_edge source (leaf l) (fork i c d) w v h = absurd h
idle_edge source (fork j a b) (leaf k) w v h = absurd h
idle_edge source (fork j a b) (fork i c d) w v h = subst (SameWaits w) (sym h.0) (same_waits w)

empty_same : (w v : Waits) → SameWaits w v → IsEmpty w → IsEmpty v
empty_same w v same h = record { rows = same.rows ∙ h.rows; ended = λ e. same.taken ∙ h.ended (sym same.put ∙ e) }

idle_quiet : {S M : Type 0} (source : Source S M) (t u : NetTree S) (w v : Waits) → TreeIdles source t u w v → IsQuiet t w → IsQuiet u v
idle_quiet source (leaf l) (leaf k) w v (same, idles) h = subst (HasPut v) (sym (idle_settled source l k w idles)) (put_same w v (are_settled l.collecting.members) same.put h)
idle_quiet source (leaf l) (fork i c d) w v h quiet = absurd h
idle_quiet source (fork j a b) (leaf k) w v h quiet = absurd h
idle_quiet source (fork j a b) (fork i c d) w v (out, (is, (left, right))) ((quiet_a, quiet_b), rests) = (
  (idle_quiet source a c j.left i.left left quiet_a, idle_quiet source b d j.right i.right right quiet_b),
  record {
    left = empty_same j.left i.left (idle_edge source a c j.left i.left left) rests.left;
    right = empty_same j.right i.right (idle_edge source b d j.right i.right right) rests.right;
    no_match = ap (λ x. x.joining.probe) is ∙ rests.no_match;
    none_left = ap (λ x. pairs_left_over x.joining) is ∙ rests.none_left;
    put = subst (λ finished. HasPut v finished) (sym (ap (λ x. is_finished x.joining) is)) (subst (λ x. HasPut x (is_finished j.joining)) (sym out) rests.put);
  },
)

pub net_idle_quiet : {S M : Type 0} (source : Source S M) (n m : NetState S) → TreeIdles source n.tree m.tree n.edge m.edge → NetIsQuiet n → NetIsQuiet m
net_idle_quiet source n m h quiet = record { tree = idle_quiet source n.tree m.tree n.edge m.edge h quiet.tree; edge = empty_same n.edge m.edge (idle_edge source n.tree m.tree n.edge m.edge h) quiet.edge }
