-- In the tree of a program the places of statements rise with the text.
use Rattle.std.proofs.Common.{◌≡◌, ℕ, zero, suc, ◌+◌, ◌<◌, ◌≤◌, List, length, map, Option, Some, None, ap, sym, subst, ◌∙◌, get_or, arith}
use Rattle.px_base.specs.declared.place.Span.{Span}
use Rattle.pas_lexer.specs.Spans.{SpansRise}
use Rattle.pas_lexer.specs.declared.token.Token.{Token}
use Rattle.pas_tree.specs.declared.block.Block.{Block}
use Rattle.pas_tree.specs.declared.block.Label.{Label}
use Rattle.pas_tree.specs.declared.block.Routine.{Routine}
use Rattle.pas_tree.specs.declared.block.RoutineBody.{RoutineBody}
use Rattle.pas_tree.specs.declared.block.RoutineBody.TheOpen.{Block-F, Routine-F, RoutineBody-F}
use Rattle.pas_tree.specs.declared.block.RoutineBody.TheVariants as body_of
use Rattle.pas_tree.specs.declared.block.RoutineBody.TheViews.{out-Block, out-Routine, out-RoutineBody, out-roll-Block, out-roll-Routine, out-roll-RoutineBody}
use Rattle.pas_tree.specs.declared.block.Tree.{Tree}
use Rattle.pas_tree.specs.declared.statement.Body.{Body}
use Rattle.pas_tree.specs.declared.statement.Element.{Element}
use Rattle.pas_tree.specs.declared.statement.Statement.{Statement}
use Rattle.pas_parser.specs.Look.{span_at}
use Rattle.pas_parser.specs.Grammar.Block as block
use Rattle.pas_parser.specs.Grammar.Constant as constant
use Rattle.pas_parser.specs.Grammar.Program as program
use Rattle.pas_parser.specs.Grammar.Statement as statement
use Rattle.pas_parser.proofs.Advance as advance
use Rattle.pas_parser.proofs.Layers as layer
use Rattle.pas_parser.proofs.Rules.{starts_later}
use Rattle.pas_check.specs.Placing.{Before, Content, LabelRises, Nothing, Outline, PlacesRise, Rises, arm_of, body_step, content, element_step, in_order, outline, outline_of, statement_step}
use Rattle.syntox.specs.Rising.{IsBlockIn, itself, inside}

module _ (tokens : List Token) (len : ℕ) (rise : SpansRise len tokens) where
  abbrev start : ℕ → ℕ
  start i = (span_at tokens i).start

  later : (i j : ℕ) → i < j → j < length tokens → start i < start j
  later = starts_later tokens len rise

  no_earlier : (i j : ℕ) → i ≤ j → j < length tokens → start i ≤ start j
  no_earlier i j le here = grind (arith, later)

  -- ---- what begins at the token i, and is followed by the token l

  -- before others
  record Goes (b : Before) (i l : ℕ) : Type 0 where
    up : i ≤ l
    rises : (least next : ℕ) (rest : Outline) (end : ℕ) → l < length tokens → least ≤ start i → start l < next → Rises next rest end → Rises least (b rest) end

  -- statements one after the other
  record Lies (o : Outline) (i l : ℕ) : Type 0 where
    up : i ≤ l
    rises : (least end : ℕ) → l < length tokens → least ≤ start i → start l < end → Rises least o end

  -- the statements in what begins and ends there
  record Holds (o : Outline) (i l : ℕ) : Type 0 where
    up : i ≤ l
    rises : (end : ℕ) → l < length tokens → start l < end → Rises (suc (start i)) o end

  one : {b : Before} {i l : ℕ} → Goes b i l → Lies (b Nothing) i l
  one h = record { up = h.up; rises = λ least end here low high. h.rises least end Nothing end here low high (omega arith) }

  more : {b : Before} {o : Outline} {i j k l : ℕ} → Goes b i j → k ≡ j + 1 → Lies o k l → Lies (b o) i l
  more {o = o} {i = i} {j = j} {k = k} {l = l} h e rest = record {
    up = omega (arith, h.up, rest.up);
    rises = λ least end here low high.
        let there : k < length tokens = omega (arith, rest.up) in
        h.rises least (suc (start j)) o end (omega arith) low (omega arith) (rest.rises (suc (start j)) end here (omega (arith, later j k (omega arith) there)) high);
  }

  nothing : {i l : ℕ} → i ≤ l → Holds Nothing i l
  nothing {i = i} {l = l} le = record { up = le; rises = λ end here high. omega (arith, no_earlier i l le here, high) }

  within : {o : Outline} {i j k l : ℕ} → i < j → k ≤ l → Lies o j k → Holds o i l
  within {i = i} {j = j} {k = k} {l = l} before after h = record {
    up = omega (arith, h.up);
    rises = λ end here high.
        let there : j < length tokens = omega (arith, h.up) in
        h.rises (suc (start i)) end (omega arith) (omega (arith, later i j before there)) (omega (arith, no_earlier k l after here));
  }

  by_before : {b c : Before} {i l : ℕ} → b ≡ c → Goes c i l → Goes b i l
  by_before {i = i} {l = l} e h = subst (λ (b : Before). Goes b i l) (sym e) h

  by_content : {c d : Content} {i l : ℕ} → c ≡ d → Holds d.inner i l → Holds c.inner i l
  by_content {i = i} {l = l} e h = subst (λ (c : Content). Holds c.inner i l) (sym e) h

  label_rises : (x : Option Label) (i j k least : ℕ) → statement.IsLabelPart tokens x i j → j ≤ k → k < length tokens → least ≤ start i → LabelRises least x (start k)
  label_rises x i j k least statement.unlabelled le here low = omega (arith, no_earlier i k le here)
  label_rises x i j k least (statement.labelled (constant.label h) c) le here low = (low, later i k (omega (arith, h.next, c.next)) here)

  mutual
    unfolding outline_of content arm_of

    of_statement : {x : Statement} {i l : ℕ} → statement.IsStatement tokens x i l → Goes (outline_of x) i l
    of_statement (statement.statement {i = i} {j = j} {k = k} {label = label} {asserts = asserts} {body = body} a b c) =
        let first = advance.label_part tokens a in
        let then = advance.many (advance.assertion tokens) b in
        let inner = of_body c in
        by_before (layer.at_statement body_step element_step statement_step label asserts body (span_at tokens k)) (record {
          up = omega (arith, first, then, inner.up);
          rises = λ least next rest end here low high r. (next, label_rises label i j k least a then (omega (arith, inner.up)) low, inner.rises next here high, r);
        })

    of_body : {x : Body} {i l : ℕ} → statement.IsBody tokens x i l → Holds (content x).inner i l
    of_body statement.empty = by_content (layer.at_empty body_step element_step statement_step) (nothing (omega arith))
    of_body (statement.call {i = i} {actuals = actuals} n h) =
        by_content (layer.at_call body_step element_step statement_step (span_at tokens i) actuals) (nothing (omega (arith, n.next, advance.of_arguments tokens h)))
    of_body (statement.assign {target = target} {x = x} a o b) =
        by_content (layer.at_assign body_step element_step statement_step target x) (nothing (omega (arith, advance.of_access tokens a, o.next, advance.of_expr tokens b)))
    of_body (statement.goto {j = j} {k = k} {label = x} w h) = by_content (layer.at_goto body_step element_step statement_step x) (nothing (omega (arith, w.next, advance.label tokens x j k h)))
    of_body (statement.compound {body = body} w h e) =
        by_content (layer.at_begin body_step element_step statement_step body) (within (omega (arith, w.next)) (omega (arith, e.next)) (of_sequence h))
    of_body (statement.if_then {cond = cond} {chosen = chosen} w c t h free) =
        by_content (layer.at_if body_step element_step statement_step cond chosen None) (within (omega (arith, w.next, advance.of_expr tokens c, t.next)) (omega arith) (one (of_statement h)))
    of_body (statement.if_else {cond = cond} {chosen = chosen} {other = other} w c t h e g) =
        by_content (layer.at_if body_step element_step statement_step cond chosen (Some other))
        (within (omega (arith, w.next, advance.of_expr tokens c, t.next)) (omega arith) (more (of_statement h) e.next (one (of_statement g))))
    of_body (statement.case {of = of} {arms = arms} w c f h s e) =
        by_content (layer.at_case body_step element_step statement_step of arms)
        (within (omega (arith, w.next, advance.of_expr tokens c, f.next)) (omega (arith, advance.last_semicolon tokens s, e.next)) (of_elements h))
    of_body (statement.while {cond = cond} {body = body} w c d h) =
        by_content (layer.at_while body_step element_step statement_step cond body) (within (omega (arith, w.next, advance.of_expr tokens c, d.next)) (omega arith) (one (of_statement h)))
    of_body (statement.repeat {k = k} {body = body} {cond = cond} w h u c) =
        by_content (layer.at_repeat body_step element_step statement_step body (span_at tokens k) cond)
        (within (omega (arith, w.next)) (omega (arith, u.next, advance.of_expr tokens c)) (of_sequence h))
    of_body (statement.for {j = j} {first = first} {last = last} {down = down} {body = body} w n a f d g t h) =
        by_content (layer.at_for body_step element_step statement_step (span_at tokens j) first down last body)
        (within (omega (arith, w.next, n.next, a.next, advance.of_expr tokens f, advance.direction tokens d, advance.of_expr tokens g, t.next)) (omega arith) (one (of_statement h)))

    of_sequence : {xs : List Statement} {i l : ℕ} → statement.IsSequence tokens xs i l → Lies (outline xs) i l
    of_sequence (statement.one_statement h) = one (of_statement h)
    of_sequence (statement.more_statements h c rest) = more (of_statement h) c.next (of_sequence rest)

    of_elements : {xs : List Element} {i l : ℕ} → statement.IsElements tokens xs i l → Lies (in_order (map arm_of xs)) i l
    of_elements (statement.one_element h) = one (of_element h)
    of_elements (statement.more_elements h c rest) = more (of_element h) c.next (of_elements rest)

    of_element : {x : Element} {i l : ℕ} → statement.IsElement tokens x i l → Goes (arm_of x) i l
    of_element (statement.element {i = i} {k = k} {consts = consts} {body = body} cs c h) =
        let before : i < k = omega (arith, advance.constants tokens cs, c.next) in
        let inner = of_statement h in
        by_before (layer.at_element body_step element_step statement_step consts body) (record {
          up = omega (arith, inner.up);
          rises = λ least next rest end here low high r. inner.rises least next rest end here (omega (arith, low, no_earlier i k (omega arith) (omega (arith, inner.up)))) high r;
        })

  -- ---- blocks

  -- the parts of a block that ends there
  record Opened (b : Block-F RoutineBody Block Routine) (end : ℕ) : Type 0 where
    from : ℕ
    next : ℕ
    body : statement.IsSequence tokens b.body from next
    before : next < end
    first : ℕ
    last : ℕ
    routines : block.IsRoutines tokens b.routines first last
    routines_before : last ≤ end

  opened : {x : Block} {i j : ℕ} → block.IsBlock tokens x i j → Opened (out-Block x) j
  opened (block.block {m = m} {n = n} {o = o} {p = p} {q = q} {labels = labels} {consts = consts} {types = types} {vars = vars} {routines = routines} {body = body} a b c d e w h f) =
      subst (λ (x : Block-F RoutineBody Block Routine). Opened x q) (sym (out-roll-Block (record { labels = labels; consts = consts; types = types; vars = vars; routines = routines; «begin» = span_at tokens n; body = body; «end» = span_at tokens p }))) (record {
        from = o;
        next = p;
        body = h;
        before = omega (arith, f.next);
        first = m;
        last = n;
        routines = e;
        routines_before = omega (arith, w.next, (of_sequence h).up, f.next);
      })

  -- a routine that ends no later
  record IsRoutineBefore (r : Routine) (end : ℕ) : Type 0 where
    from : ℕ
    next : ℕ
    routine : block.IsRoutine tokens r from next
    before : next ≤ end

  routine_before : {xs : List Routine} {i j : ℕ} → block.IsRoutines tokens xs i j → (k : ℕ) (r : Routine) → k < length xs → get_or xs k r ≡ r → IsRoutineBefore r j
  routine_before block.no_routine k r less is = absurd (omega arith)
  routine_before (block.routines {i = i} {j = j} {k = end} h rest) zero r less is =
      subst (λ (x : Routine). IsRoutineBefore x end) is (record { from = i; next = j; routine = h; before = advance.of_routines tokens rest })
  routine_before (block.routines h rest) (suc k) r less is = routine_before rest k r (omega arith) is

  inner_is : (b : Block) → out-RoutineBody (body_of.Block b) ≡ RoutineBody-F.Block b
  inner_is b = ap out-RoutineBody (sym (body_of.rolls-Block b)) ∙ out-roll-RoutineBody (RoutineBody-F.Block b)

  word_is : (s : Span) → out-RoutineBody (body_of.Word s) ≡ RoutineBody-F.Word s
  word_is s = ap out-RoutineBody (sym (body_of.rolls-Word s)) ∙ out-roll-RoutineBody (RoutineBody-F.Word s)

  block_of_body : {x : RoutineBody} {i j : ℕ} → block.IsRoutineBody tokens x i j → (inner : Block) → x ≡ body_of.Block inner → block.IsBlock tokens inner i j
  block_of_body (block.word {i = i} h) inner e =
      let same : RoutineBody-F.Word (span_at tokens i) ≡ RoutineBody-F.Block inner = sym (word_is (span_at tokens i)) ∙ ap out-RoutineBody e ∙ inner_is inner in absurd (cc)
  block_of_body (block.inner {i = i} {j = j} {block = b} h) inner e =
      let opened : RoutineBody-F.Block b ≡ RoutineBody-F.Block inner = sym (inner_is b) ∙ ap out-RoutineBody e ∙ inner_is inner in
      let same : b ≡ inner = cc in
      subst (λ (x : Block). block.IsBlock tokens x i j) same h

  -- a block that ends earlier
  record IsBlockBefore (b : Block) (end : ℕ) : Type 0 where
    from : ℕ
    next : ℕ
    is_block : block.IsBlock tokens b from next
    before : next < end

  block_of_routine : {r : Routine} {i j : ℕ} → block.IsRoutine tokens r i j → (inner : Block) → (out-Routine r).body ≡ body_of.Block inner → IsBlockBefore inner j
  block_of_routine (block.routine {j = j} {n = n} {o = o} {function = function} {formals = formals} {result = result} {body = body} w name a r s h t) inner e =
      let is = ap (λ (x : Routine-F RoutineBody Block Routine). x.body) (out-roll-Routine (record { name = span_at tokens j; function = function; formals = formals; result = result; body = body })) in
      record { from = n; next = o; is_block = block_of_body h inner (sym is ∙ e); before = omega (arith, t.next) }

  in_block : {b whole : Block} {i j : ℕ} → IsBlockIn b whole → block.IsBlock tokens whole i j → j < length tokens → PlacesRise (out-Block b).body
  in_block itself h here =
      let o = opened h in
      record { first = start o.from; end = suc (start o.next); rise = (of_sequence o.body).rises (start o.from) (suc (start o.next)) (omega (arith, o.before)) (omega arith) (omega arith) }
  in_block (inside {inner = inner} {r = r} has is deeper) h here =
      let o = opened h in
      let routine = routine_before o.routines has.0 r has.1 has.2 in
      let b = block_of_routine routine.routine inner is in in_block deeper b.is_block (omega (arith, b.before, routine.before, o.routines_before))

  in_program : {x : Tree} {i j : ℕ} → program.IsProgramFrom tokens x i j → j ≤ length tokens → (b : Block) → IsBlockIn b x.block → PlacesRise (out-Block b).body
  in_program (program.program w name a s h d) le b there = in_block there h (omega (arith, d.next))

pub rising : (tokens : List Token) (len : ℕ) → SpansRise len tokens → (tree : Tree) → program.IsProgram tokens tree → (b : Block) → IsBlockIn b tree.block → PlacesRise (out-Block b).body
rising tokens len rise tree p = in_program tokens len rise p (omega arith)
