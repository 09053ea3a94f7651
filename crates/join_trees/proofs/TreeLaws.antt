-- Trees are read as they are spelled.
use Rattle.std.proofs.Common.{◌≡◌, ℕ, suc, Bool, true, false, cond, List, [], ◌∷◌, ◌++◌, length, Option, Some, None, append_assoc, append-nil, arith, refl, sym, ap, subst, ◌∙◌}
use Rattle.std.specs.Prelude.{option_and_then}
use Rattle.text_reading.specs.Lexing.{AreTokensOf, lexeme, lexemes_from, tokens}
use Rattle.text_reading.specs.Machines.{state_after}
use Rattle.text_reading.proofs.LexingLaws as lexing
use Rattle.join_trees.specs.Machine.{finished_in, finished_tree, open_join, start, state, step, step_in, tree_from, tree_of}
use Rattle.join_trees.specs.Shapes.{Shape, tip, fork}
use Rattle.join_trees.specs.Tokens.{is_padded, lexemes_of, lexicon, tree_tokens}
use Rattle.join_trees.specs.declared.machine.Phase.{Phase}
use Rattle.join_trees.specs.declared.machine.Phase.TheVariants.{Due, Named, Read}
use Rattle.join_trees.specs.declared.machine.State.{State}
use Rattle.join_trees.specs.declared.stack.OpenJoin.{OpenJoin}
use Rattle.join_trees.specs.declared.token.Token.{Token}
use Rattle.join_trees.specs.declared.token.Token.TheVariants.{Leaf, Join, Open, Close, Comma, Junk}
use Rattle.join_trees.proofs.TokenLaws.{token_fits}

abbrev read_all : List Token → Option Shape
read_all ts = option_and_then finished_tree (state_after step start ts)

-- a tree's tokens are read as that tree

takes : (t : Shape) (os : List OpenJoin) (trees : List Shape) (ts : List Token) → state_after step (state Due os trees) (tree_tokens t ++ ts) ≡ state_after step (state Read os (t ∷ trees)) ts
takes (tip l) os trees ts = refl
takes (fork j a b) os trees ts =
    ap (state_after step (state Due (open_join j false ∷ os) trees)) (append_assoc (tree_tokens a) (Comma ∷ (tree_tokens b ++ Close ∷ [])) ts)
    ∙ takes a (open_join j false ∷ os) trees (Comma ∷ ((tree_tokens b ++ Close ∷ []) ++ ts))
    ∙ ap (state_after step (state Due (open_join j true ∷ os) (a ∷ trees))) (append_assoc (tree_tokens b) (Close ∷ []) ts)
    ∙ takes b (open_join j true ∷ os) (a ∷ trees) (Close ∷ ts)

reads : (t : Shape) → read_all (tree_tokens t) ≡ Some t
reads t = ap read_all (sym (append-nil (tree_tokens t))) ∙ ap (option_and_then finished_tree) (takes t [] [] [])

no_junk : (t : Shape) → Junk ∷ [] ≡ tree_tokens t → ⊥
no_junk (tip l) e = absurd (cc)
no_junk (fork j a b) e = absurd (cc)

pub complete : (text : List ℕ) (t : Shape) → tokens (lexemes_of text) ≡ tree_tokens t → tree_of text ≡ Some t
unfolding tree_of tree_from
complete text t e = by (is_padded text) e
  where
    by : (b : Bool) → tokens (cond b (lexeme Junk 0 ∷ []) (lexemes_from lexicon 0 0 text)) ≡ tree_tokens t → cond b None (read_all (tokens (lexemes_from lexicon 0 0 text))) ≡ Some t
    by true h = absurd (no_junk t h)
    by false h = ap read_all h ∙ reads t

inside : {X : Type 0} (x y : X) → Some x ≡ Some y → x ≡ y
inside x y e = cc

pub unique : (t u : Shape) → tree_tokens t ≡ tree_tokens u → t ≡ u
unique t u e = inside t u (sym (reads t) ∙ ap read_all e ∙ reads u)

-- what was read, as tokens

abbrev lefts : List OpenJoin → ℕ
lefts [] = 0
lefts (o ∷ os) = cond o.has_left (suc (lefts os)) (lefts os)

-- what stands before a tree that is due
abbrev front : List OpenJoin → List Shape → List Token
front [] trees = []
front (o ∷ os) [] = cond o.has_left [] (front os [] ++ (Join o.join ∷ Open ∷ []))
front (o ∷ os) (a ∷ trees) = cond o.has_left (front os trees ++ (Join o.join ∷ Open ∷ (tree_tokens a ++ Comma ∷ []))) (front os (a ∷ trees) ++ (Join o.join ∷ Open ∷ []))

abbrev spelled : Phase → List OpenJoin → List Shape → List Token
spelled Due os trees = front os trees
spelled (Named j) os trees = front os trees ++ Join j ∷ []
spelled Read os [] = []
spelled Read os (t ∷ trees) = front os trees ++ tree_tokens t

-- there is a tree for each join that has its left one, and for the one that was read
abbrev IsFit : Phase → List OpenJoin → List Shape → Type 0
IsFit Due os trees = length trees ≡ lefts os
IsFit (Named j) os trees = length trees ≡ lefts os
IsFit Read os trees = length trees ≡ suc (lefts os)

record Keeps (p : Phase) (os : List OpenJoin) (trees : List Shape) (t : Token) (next : State) : Type 0 where
  fit : IsFit next.phase next.open_joins next.trees
  spelt : spelled next.phase next.open_joins next.trees ≡ spelled p os trees ++ t ∷ []

front_left : (j : ℕ) (os : List OpenJoin) (trees : List Shape) → front (open_join j false ∷ os) trees ≡ front os trees ++ (Join j ∷ Open ∷ [])
front_left j os [] = refl
front_left j os (a ∷ trees) = refl

keeps_comma : (j : ℕ) (b : Bool) (os : List OpenJoin) (trees : List Shape) (next : State) → IsFit Read (open_join j b ∷ os) trees → step_in Read (open_join j b ∷ os) trees Comma ≡ Some next
    → Keeps Read (open_join j b ∷ os) trees Comma next
keeps_comma j true os trees next fit e = absurd (cc)
keeps_comma j false os [] next fit e = absurd (omega (arith, fit))
keeps_comma j false os (t ∷ trees) next fit e =
    subst (Keeps Read (open_join j false ∷ os) (t ∷ trees) Comma) (inside (state Due (open_join j true ∷ os) (t ∷ trees)) next e) (record {
      fit = fit;
      spelt = sym (append_assoc (front os trees ++ (Join j ∷ Open ∷ [])) (tree_tokens t) (Comma ∷ []) ∙ append_assoc (front os trees) (Join j ∷ Open ∷ []) (tree_tokens t ++ Comma ∷ []))
          ∙ ap (λ xs. (xs ++ tree_tokens t) ++ Comma ∷ []) (sym (front_left j os trees));
    })

keeps_close : (j : ℕ) (b : Bool) (os : List OpenJoin) (trees : List Shape) (next : State) → IsFit Read (open_join j b ∷ os) trees → step_in Read (open_join j b ∷ os) trees Close ≡ Some next
    → Keeps Read (open_join j b ∷ os) trees Close next
keeps_close j false os trees next fit e = absurd (cc)
keeps_close j true os [] next fit e = absurd (omega (arith, fit))
keeps_close j true os (b ∷ []) next fit e = absurd (omega (arith, fit))
keeps_close j true os (b ∷ a ∷ trees) next fit e =
    subst (Keeps Read (open_join j true ∷ os) (b ∷ a ∷ trees) Close) (inside (state Read os (fork j a b ∷ trees)) next e) (record {
      fit = omega (arith, fit);
      spelt =
          let inner : List Token = Join j ∷ Open ∷ (tree_tokens a ++ Comma ∷ []) in
          ap (λ xs. front os trees ++ (Join j ∷ Open ∷ xs)) (sym (append_assoc (tree_tokens a) (Comma ∷ []) (tree_tokens b ++ Close ∷ [])))
          ∙ sym (append_assoc (front os trees) inner (tree_tokens b ++ Close ∷ []))
          ∙ sym (append_assoc (front os trees ++ inner) (tree_tokens b) (Close ∷ []));
    })

keeps : (p : Phase) (os : List OpenJoin) (trees : List Shape) (t : Token) (next : State) → IsFit p os trees → step_in p os trees t ≡ Some next → Keeps p os trees t next
keeps Due os trees (Leaf l) next fit e = subst (Keeps Due os trees (Leaf l)) (inside (state Read os (tip l ∷ trees)) next e) (record { fit = omega (arith, fit); spelt = refl })
keeps Due os trees (Join j) next fit e = subst (Keeps Due os trees (Join j)) (inside (state (Named j) os trees) next e) (record { fit = fit; spelt = refl })
keeps (Named j) os trees Open next fit e =
    subst (Keeps (Named j) os trees Open) (inside (state Due (open_join j false ∷ os) trees) next e) (record { fit = fit; spelt = front_left j os trees ∙ sym (append_assoc (front os trees) (Join j ∷ []) (Open ∷ [])) })
keeps Read (o ∷ os) trees Comma next fit e = keeps_comma o.join o.has_left os trees next fit e
keeps Read (o ∷ os) trees Close next fit e = keeps_close o.join o.has_left os trees next fit e
keeps _ _ _ _ next fit e = absurd (cc)

abbrev IsFitState : State → Type 0
IsFitState s = IsFit s.phase s.open_joins s.trees

abbrev spelled_in : State → List Token
spelled_in s = spelled s.phase s.open_joins s.trees

follow : (before ts : List Token) (s last : State) → IsFitState s → spelled_in s ≡ before → state_after step s ts ≡ Some last → spelled_in last ≡ before ++ ts
follow before [] s last fit spelt e = ap spelled_in (sym (inside s last e)) ∙ spelt ∙ sym (append-nil before)
follow before (t ∷ ts) s last fit spelt e = by (step s t) (λ n a b c. follow (before ++ t ∷ []) ts n last a b c) refl e
  where
    by : (m : Option State) → ((n : State) → IsFitState n → spelled_in n ≡ before ++ t ∷ [] → state_after step n ts ≡ Some last → spelled_in last ≡ (before ++ t ∷ []) ++ ts)
        → step s t ≡ m → elim m as (λ _. Option State) [ None ↦ None | Some n ↦ state_after step n ts ] ≡ Some last → spelled_in last ≡ before ++ t ∷ ts
    by None more leads h = absurd (cc)
    by (Some n) more leads h =
        let kept : Keeps s.phase s.open_joins s.trees t n = keeps s.phase s.open_joins s.trees t n fit leads in
        more n kept.fit (kept.spelt ∙ ap (λ xs. xs ++ t ∷ []) spelt) h ∙ append_assoc before (t ∷ []) ts

ends : (p : Phase) (os : List OpenJoin) (trees : List Shape) (t : Shape) → finished_in p os trees ≡ Some t → spelled p os trees ≡ tree_tokens t
ends Read [] (u ∷ []) t e = ap tree_tokens (inside u t e)
ends Read [] [] t e = absurd (cc)
ends Read [] (u ∷ v ∷ trees) t e = absurd (cc)
ends Read (o ∷ os) trees t e = absurd (cc)
ends Due os trees t e = absurd (cc)
ends (Named j) os trees t e = absurd (cc)

whole : (ts : List Token) (t : Shape) → read_all ts ≡ Some t → ts ≡ tree_tokens t
whole ts t e = by (state_after step start ts) refl e
  where
    by : (m : Option State) → state_after step start ts ≡ m → option_and_then finished_tree m ≡ Some t → ts ≡ tree_tokens t
    by None f h = absurd (cc)
    by (Some last) f h = sym (follow [] ts start last refl refl f) ∙ ends last.phase last.open_joins last.trees t h

pub sound : (text : List ℕ) (t : Shape) → tree_of text ≡ Some t → tokens (lexemes_of text) ≡ tree_tokens t
unfolding tree_of tree_from
sound text t e = by (is_padded text) e
  where
    by : (b : Bool) → cond b None (read_all (tokens (lexemes_from lexicon 0 0 text))) ≡ Some t → tokens (cond b (lexeme Junk 0 ∷ []) (lexemes_from lexicon 0 0 text)) ≡ tree_tokens t
    by true h = absurd (cc)
    by false h = whole (tokens (lexemes_from lexicon 0 0 text)) t h

pub cut : (text : List ℕ) → is_padded text ≡ false → AreTokensOf lexicon 0 text (lexemes_of text)
cut text plain = rw plain (lexing.stand lexicon (λ at bytes t len e. (token_fits bytes t len e).0) 0 text)
