-- Members that are dry, pass by pass.
use Rattle.std.proofs.Common.{◌≡◌, inl, inr, ℕ, ◌+◌, ◌<◌, ◌≤◌, min, nat_lt, List, [], ◌∷◌, length, Option, Some, None, refl, sym, ap, subst, ◌∙◌, arith}
use Rattle.std.specs.Prelude.{⊤}
use Rattle.std.specs.List.{AllByRecursion, AllZip}
use Rattle.std.specs.Option.{MatchOption}
use Rattle.std.proofs.lemmas.Bool.{false≢true}
use Rattle.med_base.specs.declared.outside.source.Source.{Ghosts as Source}
use Rattle.med_prelude.specs.Counts.{greatest_count}
use Rattle.csv_wrap.specs.Wrapped.{SameSource}
use Rattle.collect_core.specs.Members.{Member}
use Rattle.collect_core.specs.Reading.{Reader}
use Rattle.collect_core.specs.Selecting.{Select}
use Rattle.collect_core.specs.Steps.{ReadsOn}
use Rattle.collect_core.specs.declared.reader.Collected.TheVariants as collected
use Rattle.step_core.specs.Edges.{IsEmpty, Waits}
use Rattle.step_core.specs.Nets.{NetState, NetTree, leaf, fork}
use Rattle.step_core.specs.Passes.{IsQuiet, LeafIdles, NetIsQuiet, Stood, TreeIdles, most_waiting}
use Rattle.frag_run.specs.Ends.{AreDry, IsDry, IsDryReader}

-- none in a row
dry_reader : {S : Type 0} (o : Option (Reader S)) → MatchOption o ⊤ (IsDryReader 0)
dry_reader None = tt
dry_reader (Some r) = λ active. Prim.omega arith

all_dry_none : {S : Type 0} (ms : List (Member S)) → AllByRecursion (IsDry 0) ms
all_dry_none [] = tt
all_dry_none (m ∷ ms) = (dry_reader m.reader, all_dry_none ms)

pub dry_none : {S : Type 0} (t : NetTree S) (w : Waits) → AreDry 0 t w
dry_none (leaf l) w = inr (all_dry_none l.collecting.members)
dry_none (fork j a b) w = (dry_none a j.left, dry_none b j.right)

-- ---- one more

read_dry : {S M : Type 0} (source : Source S M) (select : Select) (rounds : ℕ) (r q : Reader S) → rounds < greatest_count → ReadsOn source select r q collected.Still → IsDryReader rounds r → IsDryReader (rounds + 1) q
read_dry source select rounds r q few (inl (idle, is)) dry active = absurd (idle (sym (ap (λ x. x.state) is) ∙ active))
read_dry source select rounds r q few (inr p) dry active = subst (λ n. rounds + 1 ≤ n) (sym p.waited_is) (least rounds r.waited few (dry p.was))
  where
    least : (n m : ℕ) → n < greatest_count → n ≤ m → n + 1 ≤ min (m + 1) greatest_count
    least n m few h = Prim.omega (arith, few, h)

stood_dry : {S M : Type 0} (source : Source S M) (select : Select) (rounds : ℕ) (m n : Member S) → rounds < greatest_count → Stood source select m n → IsDry rounds m → IsDry (rounds + 1) n
stood_dry {S} {M} source select rounds m n few h dry = go m.reader refl h
  where
    go : (o : Option (Reader S)) → m.reader ≡ o → MatchOption o ((collected.Still ≡ collected.Still) × (n ≡ m)) (λ r. (q : Reader S) × (n ≡ record m { reader = Some q }) × SameSource source r.wrapper.source q.wrapper.source × ReadsOn source select r q collected.Still) → IsDry (rounds + 1) n
    go None e (still, same) = subst (IsDry (rounds + 1)) (sym same) (subst (λ o. MatchOption o ⊤ (IsDryReader (rounds + 1))) (sym e) tt)
    go (Some r) e (q, is, same, reads) = subst (IsDry (rounds + 1)) (sym is) (read_dry source select rounds r q few reads (subst (λ o. MatchOption o ⊤ (IsDryReader rounds)) e dry))

all_dry : {S M : Type 0} (source : Source S M) (select : Select) (rounds : ℕ) (ms ns : List (Member S)) → rounds < greatest_count → AllZip (Stood source select) ms ns → AllByRecursion (IsDry rounds) ms → AllByRecursion (IsDry (rounds + 1)) ns
all_dry source select rounds [] [] few h dry = tt
all_dry source select rounds [] (n ∷ ns) few h dry = absurd h
all_dry source select rounds (m ∷ ms) [] few h dry = absurd h
all_dry source select rounds (m ∷ ms) (n ∷ ns) few h dry = (stood_dry source select rounds m n few h.0 dry.0, all_dry source select rounds ms ns few h.1 dry.1)

tree_dry : {S M : Type 0} (source : Source S M) (rounds : ℕ) (t u : NetTree S) (w v : Waits) → rounds < greatest_count → TreeIdles source t u w v → IsQuiet t w → IsEmpty w → AreDry rounds t w → AreDry (rounds + 1) u v
tree_dry {S} {M} source rounds (leaf l) (leaf k) w v few (same, idles) quiet empty dry = go idles dry
  where
    go : LeafIdles source l k w → AreDry rounds (leaf l) w → AreDry (rounds + 1) (leaf k) v
    go (inl (inl put, is)) dry = inl (same.put ∙ put)
    go (inl (inr full, is)) dry = absurd (false≢true (sym full ∙ ap (λ rows. nat_lt (length rows) most_waiting) empty.rows))
    go (inr stood) (inl put) = inl (same.put ∙ put)
    go (inr stood) (inr dry) = inr (all_dry source l.collecting.select rounds l.collecting.members k.collecting.members few stood dry)
tree_dry source rounds (leaf l) (fork i c d) w v few h quiet empty dry = absurd h
tree_dry source rounds (fork j a b) (leaf k) w v few h quiet empty dry = absurd h
tree_dry source rounds (fork j a b) (fork i c d) w v few (out, (is, (left, right))) ((quiet_a, quiet_b), rests) empty (dry_a, dry_b) =
    (tree_dry source rounds a c j.left i.left few left quiet_a rests.left dry_a, tree_dry source rounds b d j.right i.right few right quiet_b rests.right dry_b)

pub net_dry : {S M : Type 0} (source : Source S M) (rounds : ℕ) (s t : NetState S) → rounds < greatest_count → TreeIdles source s.tree t.tree s.edge t.edge → NetIsQuiet s → AreDry rounds s.tree s.edge → AreDry (rounds + 1) t.tree t.edge
net_dry source rounds s t few idles quiet dry = tree_dry source rounds s.tree t.tree s.edge t.edge few idles quiet.tree quiet.edge dry
