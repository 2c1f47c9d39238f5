use Rattle.std.proofs.Common.{◌≡◌, ◌∙◌, sym, ap, [], ◌∷◌, map, true, false, arith, Bor}
use Rattle.std.proofs.lemmas.List.{map-append}
use Rattle.cad_syntax.specs.declared.text.Name.{Name}
use Rattle.cad_declarations.specs.Names.{has_name}
use Rattle.cad_heads.proofs.Fresh.{turn, known}
use Rattle.cad_heads.proofs.names.are_new.Goals as goal

-- src/names.rt:73:13
pub returns-then-is_among : goal.returns-then-is_among
returns-then-is_among c =
    let has : has_name (map (λ (n : Bor Name). n.now) c.loop-name.before.items) c.name-item.result.now ≡ true =
    ap (λ all. has_name (map (λ (n : Bor Name). n.now) all) c.name-item.result.now) (sym c.as_slice.ensures.value) ∙ sym c.is_among.ensures ∙ c.if-is_among.true in
    known (λ (n : Bor Name). n.now) c.args.names.now c.loop-name.name-index c.name-item.result (map (λ (n : Bor Name). n.now) c.loop-name.before.items) _
    (omega arith) c.name-item.is has c.loop-name.invariant

-- src/names.rt:71:5
pub loop-name-preserved : goal.loop-name-preserved
loop-name-preserved c =
    let has : has_name (map (λ (n : Bor Name). n.now) c.loop-name.before.items) c.name-item.result.now ≡ false =
    ap (λ all. has_name (map (λ (n : Bor Name). n.now) all) c.name-item.result.now) (sym c.as_slice.ensures.value) ∙ sym c.is_among.ensures ∙ c.if-is_among.false in
    turn (λ (n : Bor Name). n.now) c.args.names.now c.loop-name.name-index c.name-item.result (map (λ (n : Bor Name). n.now) c.loop-name.before.items)
    (map (λ (n : Bor Name). n.now) c.push.new.self.items) _
    (omega arith) c.name-item.is has
    (ap (map (λ (n : Bor Name). n.now)) c.in_ok-push.ensures.items ∙ map-append (λ (n : Bor Name). n.now) c.loop-name.before.items (c.name-item.result ∷ []))
    c.loop-name.invariant
