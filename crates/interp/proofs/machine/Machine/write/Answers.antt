use Rattle.std.proofs.Common.{◌≡◌, ◌++◌, List, ℕ, true, ap, ◌∙◌, sym, Option, Some, Ok}
use Rattle.control_points.specs.Actions.{written_value}
use Rattle.control_points.specs.Evaluation.{Answer}
use Rattle.control_points.specs.Flows.{chart_of}
use Rattle.control_points.specs.Output.{Written, in_columns}
use Rattle.interp.specs.declared.write.Output.{Output}
use Rattle.interp.specs.declared.write.Text.{Text}
use Rattle.interp.specs.Meant.{bytes_of, text_of}
use Rattle.interp.proofs.Acting.{landed_same, write_plain, write_wide}
use Rattle.interp.proofs.machine.Machine.write.Goals as goal
use Rattle.interp.proofs.machine.Machine.write.Goals.{in-Value+in_ok-text-in-Value, in-Text, in-Some+in_ok-width-in-Some, in-None}

pub returns-clause-exact : goal.returns-clause-exact
returns-clause-exact c = λ k s st.
    let m = c.args.self.now in
    let chart = chart_of m.flow.now in
    let item = c.args.item.now in
    let t = c.match-item.text in
    let r = c.lands.result in
    let told = λ (t : Text). let a : Answer Written = Ok (text_of t) in a in
    let cut = λ (bytes : List ℕ). let a : Answer Written = Ok (record { bytes = bytes; is_cut = true }) in a in
    let written = λ (o : Option ℕ). let x : Output = record { text = t; width = o } in s.output ++ bytes_of (Some x) in
    let v : written_value chart s item.value ≡ told t = elim c.match-item.branch [
      | in-Value+in_ok-text-in-Value w ↦ ap (written_value chart s) w.in-Value.is ∙ w.in_ok-text-in-Value.ensures.exact s st ∙ ap told (sym w.text-is)
      | in-Text w ↦ ap (written_value chart s) w.in-Text.is ∙ ap cut (sym w.as_slice.ensures) ∙ ap told (sym w.text-is)
    ] in
    let lands = c.lands.ensures.exact k s st in
    elim c.match-item-2.branch [
      | in-Some+in_ok-width-in-Some w ↦
          let n = w.in_ok-width-in-Some.field-0 in
          write_wide m s k item (text_of t) w.in-Some.width n r v w.in-Some.is (w.in_ok-width-in-Some.ensures.exact s st)
          (landed_same m s k m.items.now s.items (written c.match-item-2.width) (s.output ++ in_columns n (text_of t)) r (sym st.items) (ap written w.width-is) lands)
      | in-None w ↦
          write_plain m s k item (text_of t) r v w.in-None.is
          (landed_same m s k m.items.now s.items (written c.match-item-2.width) (s.output ++ (text_of t).bytes) r (sym st.items) (ap written w.width-is) lands)
    ]
