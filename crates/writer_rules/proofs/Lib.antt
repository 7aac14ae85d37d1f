mod Padding
mod LineLaws
mod RuleLaws
