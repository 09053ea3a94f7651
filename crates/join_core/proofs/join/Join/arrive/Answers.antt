use Rattle.std.proofs.Common.{◌≡◌, ◌+◌, [], ◌∷◌, Some, None, length, sym, ap, ap₂, subst, ◌∙◌, arith}
use Rattle.tuple_core.specs.Encoding.{row_encoding}
use Rattle.tuple_core.specs.Hashing.{bucket_of}
use Rattle.bucket_store.specs.Held.{Held, with_row}
use Rattle.bucket_store.specs.Addresses.{KeyAddress, address_of}
use Rattle.row_match.specs.Shapes.{key_row, vars_of}
use Rattle.row_match.specs.declared.shape.Side.TheVariants as which
use Rattle.answer_theory.specs.Bags.{SameBag}
use Rattle.join_core.specs.Given.{pairs_given}
use Rattle.join_core.specs.Kept.{IsJoin}
use Rattle.join_core.specs.Sides.{buckets_on, joining_of, probing_of, with_buckets}
use Rattle.join_core.specs.State.{Joining, arrived}
use Rattle.join_core.specs.Steps.{JoinStep, on_side}
use Rattle.join_core.specs.declared.probe.Probe.{Probe}
use Rattle.join_core.proofs.Arriving.{arrived_is, arrived_keeps, begun, kept_as}
use Rattle.join_core.proofs.Keeping.{keeps_arrival, no_probe}
use Rattle.join_core.proofs.join.Join.arrive.Goals as goal

pub invariant_of-self-2 : goal.invariant_of-self-2
invariant_of-self-2 c =
    let held : Held = record { key = c.as_slice-key.result.now; row = c.args.row; number = c.self.inside.next } in
    let wrote : c.insert.new.self ≡ with_buckets c.args.side c.self.inside.sides (with_row (buckets_on c.args.side c.self.inside.sides) held) = c.in_default-insert.ensures.ok in
    let key : c.as_slice-key.result.now ≡ row_encoding (key_row c.args.side c.self.inside.shape c.args.row) = c.as_slice-key.ensures ∙ c.key_of.ensures.key in
    let counted : c.in-Some.next ≡ c.self.inside.next + 1 = grind (arith, c.in-Some.ensures) in
    let address : c.address-address.result ≡ address_of (length (buckets_on c.args.side c.self.inside.sides)) c.as_slice-key.result.now
    = c.address-address.ensures ∙ ap₂ (λ f k. address_of (length f) k) c.on.ensures (sym c.as_slice-key.ensures) in
    let idle : c.self.inside.probe ≡ None = no_probe c.self.inside.probe (ap (λ (s : Joining). s.probe) c.self.view_is ∙ c.requires.idle) in
    let wide : length c.args.row ≡ length (vars_of c.args.side c.self.inside.shape) = c.requires.wide ∙ ap (λ (s : Joining). length (vars_of c.args.side s.shape)) (sym c.self.view_is) in
    let start : joining_of c.self.inside.shape c.self.inside.sides c.self.inside.left_ended c.self.inside.right_ended c.self.inside.next None ≡ c.args.self.now
    = ap (joining_of c.self.inside.shape c.self.inside.sides c.self.inside.left_ended c.self.inside.right_ended c.self.inside.next) (sym idle) ∙ c.self.view_is in
    let probe : Probe = record { side = c.args.side; row = c.args.row; number = c.self.inside.next; address = c.address-address.result; place = 0; from = 0 } in
    let begins : probing_of probe ≡ begun c.args.side (length (buckets_on c.args.side c.self.inside.sides)) (kept_as c.args.side c.self.inside.shape c.args.row c.self.inside.next)
    = ap (λ b. record { side = c.args.side; number = c.self.inside.next; bucket = b; from = 0 }) (ap (λ (a : KeyAddress). a.bucket) address ∙ ap (bucket_of (length (buckets_on c.args.side c.self.inside.sides))) key) in
    let sides : c.insert.new.self ≡ with_buckets c.args.side c.self.inside.sides (with_row (buckets_on c.args.side c.self.inside.sides) (kept_as c.args.side c.self.inside.shape c.args.row c.self.inside.next))
    = wrote ∙ ap (λ k. with_buckets c.args.side c.self.inside.sides (with_row (buckets_on c.args.side c.self.inside.sides) (record { key = k; row = c.args.row; number = c.self.inside.next }))) key in
    subst (λ ss. IsJoin c.self.inside.shape ss c.in-Some.next c.key_of.new.room (Some probe)) (sym wrote)
    (subst (λ n. IsJoin c.self.inside.shape (with_buckets c.args.side c.self.inside.sides (with_row (buckets_on c.args.side c.self.inside.sides) held)) n c.key_of.new.room (Some probe)) (sym counted)
    (subst (λ k. IsJoin c.self.inside.shape (with_buckets c.args.side c.self.inside.sides (with_row (buckets_on c.args.side c.self.inside.sides) held)) (c.self.inside.next + 1) k (Some probe)) c.as_slice-key.ensures
    (subst (λ a. IsJoin c.self.inside.shape (with_buckets c.args.side c.self.inside.sides (with_row (buckets_on c.args.side c.self.inside.sides) held)) (c.self.inside.next + 1) c.as_slice-key.result.now
    (Some (record { side = c.args.side; row = c.args.row; number = c.self.inside.next; address = a; place = 0; from = 0 }))) (sym address)
    (keeps_arrival c.self.inside.shape c.self.inside.sides c.self.inside.next c.as_slice-key.result.now c.self.inside.key c.args.row c.self.inside.probe c.self.invariant c.in_default-insert.ensures.fits c.args.side key wide))))

pub returns-clause-arrives : goal.returns-clause-arrives
returns-clause-arrives c =
    let held : Held = record { key = c.as_slice-key.result.now; row = c.args.row; number = c.self.inside.next } in
    let wrote : c.insert.new.self ≡ with_buckets c.args.side c.self.inside.sides (with_row (buckets_on c.args.side c.self.inside.sides) held) = c.in_default-insert.ensures.ok in
    let key : c.as_slice-key.result.now ≡ row_encoding (key_row c.args.side c.self.inside.shape c.args.row) = c.as_slice-key.ensures ∙ c.key_of.ensures.key in
    let counted : c.in-Some.next ≡ c.self.inside.next + 1 = grind (arith, c.in-Some.ensures) in
    let address : c.address-address.result ≡ address_of (length (buckets_on c.args.side c.self.inside.sides)) c.as_slice-key.result.now
    = c.address-address.ensures ∙ ap₂ (λ f k. address_of (length f) k) c.on.ensures (sym c.as_slice-key.ensures) in
    let idle : c.self.inside.probe ≡ None = no_probe c.self.inside.probe (ap (λ (s : Joining). s.probe) c.self.view_is ∙ c.requires.idle) in
    let wide : length c.args.row ≡ length (vars_of c.args.side c.self.inside.shape) = c.requires.wide ∙ ap (λ (s : Joining). length (vars_of c.args.side s.shape)) (sym c.self.view_is) in
    let start : joining_of c.self.inside.shape c.self.inside.sides c.self.inside.left_ended c.self.inside.right_ended c.self.inside.next None ≡ c.args.self.now
    = ap (joining_of c.self.inside.shape c.self.inside.sides c.self.inside.left_ended c.self.inside.right_ended c.self.inside.next) (sym idle) ∙ c.self.view_is in
    let probe : Probe = record { side = c.args.side; row = c.args.row; number = c.self.inside.next; address = c.address-address.result; place = 0; from = 0 } in
    let begins : probing_of probe ≡ begun c.args.side (length (buckets_on c.args.side c.self.inside.sides)) (kept_as c.args.side c.self.inside.shape c.args.row c.self.inside.next)
    = ap (λ b. record { side = c.args.side; number = c.self.inside.next; bucket = b; from = 0 }) (ap (λ (a : KeyAddress). a.bucket) address ∙ ap (bucket_of (length (buckets_on c.args.side c.self.inside.sides))) key) in
    let sides : c.insert.new.self ≡ with_buckets c.args.side c.self.inside.sides (with_row (buckets_on c.args.side c.self.inside.sides) (kept_as c.args.side c.self.inside.shape c.args.row c.self.inside.next))
    = wrote ∙ ap (λ k. with_buckets c.args.side c.self.inside.sides (with_row (buckets_on c.args.side c.self.inside.sides) (record { key = k; row = c.args.row; number = c.self.inside.next }))) key in
    ap (λ ss. joining_of c.self.inside.shape ss c.self.inside.left_ended c.self.inside.right_ended c.in-Some.next (Some probe)) sides
    ∙ ap (λ n. joining_of c.self.inside.shape (with_buckets c.args.side c.self.inside.sides (with_row (buckets_on c.args.side c.self.inside.sides) (kept_as c.args.side c.self.inside.shape c.args.row c.self.inside.next))) c.self.inside.left_ended c.self.inside.right_ended n (Some probe)) counted
    ∙ arrived_is c.args.side c.self.inside.shape c.self.inside.sides c.self.inside.left_ended c.self.inside.right_ended c.self.inside.next c.args.row probe begins
    ∙ ap (λ s. arrived c.args.side s c.args.row) start

pub returns-clause-step : goal.returns-clause-step
returns-clause-step c =
    subst (λ t. JoinStep c.args.self.now t (on_side c.args.side which.Left (c.args.row ∷ [])) (on_side c.args.side which.Right (c.args.row ∷ [])) []) (sym (returns-clause-arrives c))
    (arrived_keeps c.args.side c.self.inside.shape c.self.inside.sides c.self.inside.left_ended c.self.inside.right_ended c.self.inside.next c.self.inside.key c.self.inside.probe c.args.self.now c.args.row c.self.invariant c.self.view_is c.requires.idle).step

pub returns-clause-pairs : goal.returns-clause-pairs
returns-clause-pairs c =
    subst (λ t. SameBag (pairs_given t) (pairs_given c.args.self.now)) (sym (returns-clause-arrives c))
    (arrived_keeps c.args.side c.self.inside.shape c.self.inside.sides c.self.inside.left_ended c.self.inside.right_ended c.self.inside.next c.self.inside.key c.self.inside.probe c.args.self.now c.args.row c.self.invariant c.self.view_is c.requires.idle).same_pairs

pub insert-requires : goal.insert-requires
insert-requires c = c.address-address.ensures ∙ ap₂ (λ f k. address_of (length f) k) c.on.ensures (sym c.as_slice-key.ensures)
