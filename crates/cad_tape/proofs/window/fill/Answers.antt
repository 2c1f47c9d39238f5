use Rattle.std.proofs.Common.{◌≡◌, ◌++◌, ◌≤◌, ◌+◌, ◌-◌, List, ℕ, length, take, drop, subst, inl, inr, arith, ◌∙◌, ap, sym}
use Rattle.std.proofs.lemmas.Bool.Decides.{nat_tests}
use Rattle.cad_host.specs.Disk.{reads}
use Rattle.cad_tape.specs.Code.Scanning.{IsAlong}
use Rattle.cad_tape.proofs.Along.{more, none_left}
use Rattle.cad_tape.proofs.window.fill.Goals as goal
use Rattle.cad_tape.proofs.window.fill.Goals.{else-pieces-test, then-pieces-test+then-at-window, then-pieces-test+else-at-window+in_ok-piece+then-is_empty}

pub pieces-preserved : goal.pieces-preserved
pieces-preserved g c = record {
  inside = omega (arith, c.in_ok-extend_from_slice.ensures.len, c.deref.ensures.len, c.in_ok-piece.ensures.few, c.min-room.ensures, c.len-in-pieces.ensures, c.pieces.invariant.inside);
  story = λ tell. c.in_ok-piece.ensures.story tell ∙ c.pieces.invariant.story tell;
  stays = λ tell. c.read_piece.ensures.stays tell ∙ c.pieces.invariant.stays tell;
  disk = c.in_ok-piece.ensures.cause ∙ c.pieces.invariant.disk;
  input = c.read_piece.ensures.input ∙ c.pieces.invariant.input;
  output = c.read_piece.ensures.output ∙ c.pieces.invariant.output;
  along = λ tell bytes is along.
      let a = c.pieces.invariant.along tell bytes is along in
      let items = c.pieces.bytes.items in
      let place = c.args.window.now.place in
      let end = c.args.window.now.end in
      let room = c.min-room.result in
      let at = place + c.len-in-pieces.result in
      let at_is : at ≡ place + length items = omega (arith, c.len-in-pieces.ensures, c.pieces.bytes.ok.0) in
      let fits : room ≤ end - at = omega (arith, c.min-room.ensures) in
      let read = ap (λ (m : List _). reads m c.args.window.now.tape) (c.pieces.invariant.story tell) ∙ sym is in
      let piece_is = c.in_ok-piece.ensures.is tell ∙ ap (λ (l : List ℕ). take room (drop at l)) read in
      let whole = c.in_ok-extend_from_slice.ensures.items ∙ ap (λ (l : List ℕ). items ++ l) c.deref.ensures.value in
      subst (λ (l : List ℕ). IsAlong bytes l place end) (sym whole) (more bytes items c.in_ok-piece.piece.items place end at room a at_is fits piece_is);
}

pub returns-clause-enough : goal.returns-clause-enough
returns-clause-enough g c = λ tell bytes is along.
    let a = c.pieces.invariant.along tell bytes is along in
    let items = c.pieces.bytes.items in
    let place = c.args.window.now.place in
    let end = c.args.window.now.end in
    elim c.pieces-test.branch [
      | else-pieces-test w ↦ inl (omega (arith, w.pieces-test.false, c.len.ensures, c.pieces.bytes.ok.0))
      | then-pieces-test+then-at-window w ↦ inr (omega (arith, a.end_is, w.if-at-window.true, w.len-in-pieces.ensures, c.pieces.bytes.ok.0))
      | then-pieces-test+else-at-window+in_ok-piece+then-is_empty w ↦
          let room = w.min-room.result in
          let at = place + w.len-in-pieces.result in
          let at_is : at ≡ place + length items = omega (arith, w.len-in-pieces.ensures, c.pieces.bytes.ok.0) in
          let read = ap (λ (m : List _). reads m c.args.window.now.tape) (c.pieces.invariant.story tell) ∙ sym is in
          let piece_is = w.in_ok-piece.ensures.is tell ∙ ap (λ (l : List ℕ). take room (drop at l)) read in
          let none : length w.in_ok-piece.piece.items ≡ 0 = grind (arith, nat_tests, w.if-is_empty.true, w.if-is_empty.ensures, w.is_empty.ensures, w.in_ok-piece.piece.ok.0) in
          inr (none_left bytes items w.in_ok-piece.piece.items place end at room a at_is w.min-room.ensures piece_is none)
    ]
