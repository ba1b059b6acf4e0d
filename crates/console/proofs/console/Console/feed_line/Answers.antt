use Rattle.std.proofs.Common.{◌-◌, ◌∷◌, [], length, take, drop, vec_items, sym, arith, length-append, length-drop, length-take, ◌<◌, ◌++◌, refl}
use Rattle.std.proofs.lemmas.List.{append-nil}
use Rattle.console.specs.Consoles.{waiting}
use Rattle.console.specs.Replies.{response}
use Rattle.console.specs.Sessions.{longest}
use Rattle.console.proofs.Streaming.{continues_too_long, continues_line, line_ended, shorter}
use Rattle.console.proofs.console.Console.feed_line.Goals as goal

pub returns-then-not-has_room : goal.returns-then-not-has_room
returns-then-not-has_room c =
    let w = waiting c.args.self.now in
    let piece = c.args.piece.now in
    let d = c.if-not-has_room.ensures in
    let long : longest < length (w.held ++ piece) = grind arith in (
      (c.if-self.false, λ unended. absurd (omega (arith, long, unended.1))),
      continues_too_long w (waiting c.refuse_held.new.self) piece piece [] (take (length piece - length piece) (drop (length piece) piece))
          (response c.refuse_held.result) c.if-self.false c.args.self.now.line (sym (append-nil piece)) c.in_default.ensures long c.refuse_held.ensures,
      simp (length-take, length-drop) (omega (arith, long, length-append (vec_items c.args.self.now.held) piece, c.args.self.now.line.1)),
      λ going. absurd (cc (going, c.refuse_held.ensures.ended)),
    )

pub returns-then-not-has_room-2 : goal.returns-then-not-has_room-2
returns-then-not-has_room-2 c =
    let w = waiting c.args.self.now in
    let d = c.if-not-has_room-2.ensures in
    let long : longest < length (w.held ++ c.in-Some.front.now) = grind arith in (
      (c.if-self.false, line_ended w.held c.args.piece.now c.in-Some.front.now c.in-Some.rest.now c.in-Some.ensures.1),
      continues_too_long w (waiting c.refuse_held-then-not-has_room-2.new.self) c.args.piece.now c.in-Some.front.now (10 ∷ c.in-Some.rest.now) c.in-Some.rest.now
          (response c.refuse_held-then-not-has_room-2.result) c.if-self.false c.args.self.now.line c.in-Some.ensures.1 c.in-Some.ensures.0 long
          c.refuse_held-then-not-has_room-2.ensures,
      shorter c.args.piece.now c.in-Some.front.now c.in-Some.rest.now c.in-Some.ensures.1,
      λ going. absurd (cc (going, c.refuse_held-then-not-has_room-2.ensures.ended)),
    )

pub returns : goal.returns
returns c =
    let w = waiting c.args.self.now in (
      (c.if-self.false, line_ended w.held c.args.piece.now c.in-Some.front.now c.in-Some.rest.now c.in-Some.ensures.1),
      continues_line w (waiting c.keep-2.new.self) (waiting c.answer_held.new.self) c.args.piece.now c.in-Some.front.now c.in-Some.rest.now
          (response c.in_ok-reply.reply) c.if-self.false c.args.self.now.line c.in-Some.ensures.1 c.in-Some.ensures.0
          (c.if-not-has_room-2.ensures.0 refl) c.in_ok-keep-2.ensures c.in_ok-reply.ensures,
      shorter c.args.piece.now c.in-Some.front.now c.in-Some.rest.now c.in-Some.ensures.1,
      λ _. (c.in_ok-reply.ensures.held, c.in-Some.front.now, c.in-Some.ensures.0, c.in-Some.ensures.1),
    )
