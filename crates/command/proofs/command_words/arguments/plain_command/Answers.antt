use Rattle.std.proofs.Common.{◌∙◌, ap, true}
use Rattle.clap.specs.Simple.{App, app_of_fields, on_top}
use Rattle.clap.specs.declared.builder.command.Command.{Command}
use Rattle.clap.specs.declared.builder.command.Command.TheOpen.{Command-F}
use Rattle.command.proofs.command_words.arguments.plain_command.Goals as goal

abbrev marked : App → App
marked a = on_top (λ s. record s { no_binary_name = true; disable_help_flag = true; disable_version_flag = true }) a

pub returns : goal.returns
returns c =
    let fields = c.disable_version_flag.ensures ∙ ap (λ (f : Command-F Command). record f { disable_version_flag = true })
    (c.disable_help_flag.ensures ∙ ap (λ (f : Command-F Command). record f { disable_help_flag = true }) c.no_binary_name.ensures) in
    ap app_of_fields fields ∙ ap marked c.new.ensures.app
