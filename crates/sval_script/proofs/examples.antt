mod ShortScripts
mod AllScripts
