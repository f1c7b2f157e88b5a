use Rattle.std.proofs.Common.{◌≡◌, ◌∙◌, ap, false}
use Rattle.std.proofs.lemmas.Result.{IfOk-weaker}
use Rattle.clap.specs.Words.{App, app_of}
use Rattle.clap.specs.declared.builder.command.Command.{Command}
use Rattle.clap.specs.declared.builder.command.Command.TheViews.{out-Command as fields_of}
use Rattle.ffv1_words.specs.CommandLine.{pack_app, with_codec_id, with_colour, with_container}
use Rattle.ffv1_words.specs.CommandLine.{with_model, with_no_clobber, with_pace, with_progress}
use Rattle.ffv1_words.specs.CommandLine.{with_slices, with_verify}
use Rattle.ffv1_words.proofs.command_line.pack_command.Goals as goal

abbrev made : App → App
made a = with_progress (with_no_clobber a)

pub returns : goal.returns
returns c =
    let model = c.in_ok-command-2.ensures.0 ∙ ap (with_model c.args.words.contexts)
    c.in_ok-command.ensures.0 in
    let slices = c.in_ok-command-3.ensures.0 ∙ ap with_slices model in
    let pace = c.in_ok-command-4.ensures.0 ∙ ap with_pace slices in
    let held = c.in_ok-command-5.ensures.0 ∙ ap (with_container c.args.words.containers) pace in
    let called = c.in_ok-command-6.ensures.0 ∙ ap (with_codec_id c.args.words.codec_ids) held in
    let coloured = c.in_ok-command-7.ensures.0 ∙ ap (with_colour c.args.words) called in
    let all = c.in_ok-command-8.ensures.0 ∙ ap with_verify coloured in
    IfOk-weaker c.add_making.result (λ (x : Command).
    (app_of x ≡ made (app_of c.in_ok-command-8.command)) × ((fields_of x).has_globals ≡ false))
    (λ (x : Command). (app_of x ≡ pack_app c.args.words) ×
    ((fields_of x).has_globals ≡ false))
    (λ x p. (p.0 ∙ ap made all, p.1))
    c.add_making.ensures
