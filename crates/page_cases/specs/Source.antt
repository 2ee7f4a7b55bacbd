-- What a source of either kind means.
use Rattle.page.specs.Coming.{Coming}
use Rattle.strip.specs.Strip.{strip_of}
use Rattle.raw.specs.Raw.{raw_of}
use Rattle.page_cases.specs.declared.source.Source.{Source}
use Rattle.page_cases.specs.declared.source.Source.TheVariants.{Strip, Raw}

abbrev pub source_of : Source → Coming
source_of (Strip s) = strip_of s
source_of (Raw r) = raw_of r
